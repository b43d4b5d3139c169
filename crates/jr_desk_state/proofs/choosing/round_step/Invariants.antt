use Rattle.jr_desk_state.proofs.ChoiceBoards.{IsSearched}
use Rattle.jr_desk_state.proofs.choosing.round_step.Given as goal

abbrev pub invariant-loop-place : goal.invariant-loop-place
invariant-loop-place l = IsSearched l.plan l.board l.standing l.worker l.declines l.place
