use Rattle.jr_laws_log.proofs.DrawLaws.{log_is_intact_of_draws}
use Rattle.jr_laws_log.proofs.intact.log_is_intact_of_draws.Goals as goal

pub returns : goal.returns
returns c = log_is_intact_of_draws
