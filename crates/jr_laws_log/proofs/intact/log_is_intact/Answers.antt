use Rattle.jr_laws_log.proofs.IntactLaws.{log_is_intact}
use Rattle.jr_laws_log.proofs.intact.log_is_intact.Goals as goal

pub returns : goal.returns
returns c = log_is_intact
