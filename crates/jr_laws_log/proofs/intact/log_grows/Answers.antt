use Rattle.jr_laws_log.proofs.LogGrowth.{log_grows}
use Rattle.jr_laws_log.proofs.intact.log_grows.Goals as goal

pub returns : goal.returns
returns c = log_grows
