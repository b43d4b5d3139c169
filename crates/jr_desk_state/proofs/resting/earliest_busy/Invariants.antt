use Rattle.jr_desk_state.proofs.RestMoves.{IsEarliest}
use Rattle.jr_desk_state.proofs.resting.earliest_busy.Given as goal

abbrev pub invariant-loop-clone : goal.invariant-loop-clone
invariant-loop-clone l = IsEarliest l.fn.plan l.fn.board.history.items l.clone l.earliest l.phase
