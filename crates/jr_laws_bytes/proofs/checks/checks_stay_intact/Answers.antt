use Rattle.jr_laws_bytes.proofs.LastWrites.{check_stays_intact}
use Rattle.jr_laws_bytes.proofs.checks.checks_stay_intact.Goals as goal

pub returns : goal.returns
returns c = check_stays_intact
