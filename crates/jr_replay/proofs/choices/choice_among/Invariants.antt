use Rattle.std.proofs.Common.{◌≡◌, drop}
use Rattle.jr_model.specs.Choice.{choice_of_clone, choice}
use Rattle.jr_model.specs.History.{first_given}
use Rattle.jr_replay.proofs.choices.choice_among.Given as goal

abbrev pub invariant-loop-clone : goal.invariant-loop-clone
invariant-loop-clone l = first_given (choice_of_clone l.work l.past l.worker) (drop l.clone-index l.work.clones) ≡ choice l.work l.past l.worker
