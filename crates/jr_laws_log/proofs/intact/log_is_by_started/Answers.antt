use Rattle.jr_laws_log.proofs.DrawLaws.{log_is_by_started}
use Rattle.jr_laws_log.proofs.intact.log_is_by_started.Goals as goal

pub returns : goal.returns
returns c = log_is_by_started
