use Rattle.std.proofs.Common.{◌≡◌, true, take}
use Rattle.std.specs.List.{list_all}
use Rattle.jr_model.specs.Legal.{is_at_rest}
use Rattle.jr_desk_state.proofs.resting.is_complete.Given as goal

abbrev pub invariant-loop-clone : goal.invariant-loop-clone
invariant-loop-clone l = list_all (is_at_rest l.fn.board.history.items) (take l.clone l.fn.plan.clones) ≡ true
