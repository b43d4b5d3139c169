use Rattle.std.proofs.Common.{◌≡◌, ◌-◌, drop, length}
use Rattle.jr_model.specs.Choice.{choice_of_clone}
use Rattle.jr_model.specs.History.{first_given}
use Rattle.jr_desk_state.proofs.choosing.choose.Given as goal

abbrev pub invariant-loop-clone : goal.invariant-loop-clone
invariant-loop-clone l =
    first_given (choice_of_clone l.plan l.board.history.items l.worker) l.plan.clones
    ≡ first_given (choice_of_clone l.plan l.board.history.items l.worker) (drop l.clone l.plan.clones)

abbrev pub decreases-loop-clone : goal.decreases-loop-clone
decreases-loop-clone l = length l.plan.clones - l.clone
