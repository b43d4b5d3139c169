use Rattle.std.proofs.Common.{ap, ◌∙◌}
use Rattle.jr_cli_after.specs.Found.{FileAfterState}
use Rattle.jr_cli_after.proofs.files.FileAfter.add_judged.Goals as goal

pub returns-clause-value : goal.returns-clause-value
returns-clause-value c = λ file chunks is. c.add.ensures.value file chunks (ap (λ (s : FileAfterState). s.found) c.self.view_is ∙ is)
