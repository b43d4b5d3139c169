use Rattle.std.proofs.Common.{◌≡◌, drop}
use Rattle.jr_model.specs.Choice.{choice_of_pass, choice_of_clone}
use Rattle.jr_model.specs.History.{first_given}
use Rattle.jr_model.specs.Rounds.{passes_of}
use Rattle.jr_replay.proofs.choices.choice_of_clone.Given as goal

abbrev pub invariant-loop-pass : goal.invariant-loop-pass
invariant-loop-pass l = first_given (choice_of_pass l.work l.past l.worker) (drop l.pass-index (passes_of l.clone)) ≡ choice_of_clone l.work l.past l.worker l.clone
