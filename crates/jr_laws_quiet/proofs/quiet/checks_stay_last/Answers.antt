use Rattle.jr_laws_quiet.proofs.quiet.checks_stay_last.Goals as goal
use Rattle.jr_laws_quiet.proofs.Checks.{kept_or_not}

pub returns : goal.returns
returns c = kept_or_not
