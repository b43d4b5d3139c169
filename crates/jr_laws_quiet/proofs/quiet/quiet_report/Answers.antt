use Rattle.jr_laws_quiet.proofs.quiet.quiet_report.Goals as goal
use Rattle.jr_laws_quiet.proofs.Reports.{quiet_run}

pub returns : goal.returns
returns c = quiet_run
