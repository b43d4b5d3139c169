-- Believed: why a plan's files weren't judged after a cut (of this project).
use Rattle.std.specs.Prelude.{ℕ, List, codes}
use Rattle.jr_cli_after.specs.declared.faults.AfterFailure.{AfterFailure}
use Rattle.jr_cli_after.specs.declared.faults.AfterFailure.TheVariants as failure

abbrev pub failure_text : AfterFailure → List ℕ
failure_text failure.Memory = codes "out of memory"
failure_text failure.Calls = codes "too many calls of the engine"
