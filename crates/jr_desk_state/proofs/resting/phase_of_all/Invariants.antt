use Rattle.jr_desk_state.proofs.RestMoves.{IsOpenTo}
use Rattle.jr_desk_state.proofs.resting.phase_of_all.Given as goal

abbrev pub invariant-loop-clone : goal.invariant-loop-clone
invariant-loop-clone l = IsOpenTo l.fn.board.history.items l.fn.plan.clones l.clone l.phase
