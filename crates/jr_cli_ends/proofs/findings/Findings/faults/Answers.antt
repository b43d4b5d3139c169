use Rattle.std.proofs.Common.{subst}
use Rattle.jr_report_faults.specs.Faults.{AreFaultsOf}
use Rattle.jr_cli_ends.specs.Findings.{RunOf}
use Rattle.jr_cli_ends.proofs.findings.Findings.faults.Goals as goal

pub returns : goal.returns
returns c = subst (λ (run : RunOf). AreFaultsOf run.plan run.history c.self.inside.faults) c.self.view_is c.self.invariant.faults
