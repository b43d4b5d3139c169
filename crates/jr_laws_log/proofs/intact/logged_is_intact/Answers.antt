use Rattle.jr_laws_log.proofs.IntactLaws.{logged_is_intact}
use Rattle.jr_laws_log.proofs.intact.logged_is_intact.Goals as goal

pub returns : goal.returns
returns c = logged_is_intact
