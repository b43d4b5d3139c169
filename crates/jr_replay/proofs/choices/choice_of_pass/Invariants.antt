use Rattle.std.proofs.Common.{◌≡◌, drop}
use Rattle.jr_model.specs.Choice.{choice_of_pass}
use Rattle.jr_model.specs.History.{first_given}
use Rattle.jr_model.specs.Legal.{step_of}
use Rattle.jr_replay.proofs.choices.choice_of_pass.Given as goal

abbrev pub invariant-loop-draw : goal.invariant-loop-draw
invariant-loop-draw l = first_given (step_of l.work l.past l.worker l.pass) (drop l.draw-index l.pass.draws) ≡ choice_of_pass l.work l.past l.worker l.pass
