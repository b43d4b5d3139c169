use Rattle.jr_laws_bytes.proofs.Plays.{no_bad_verdict}
use Rattle.jr_laws_bytes.proofs.checks.quiet_play.Goals as goal

pub returns : goal.returns
returns c = no_bad_verdict
