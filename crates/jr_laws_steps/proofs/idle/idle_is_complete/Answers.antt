use Rattle.jr_laws_steps.proofs.IdleLaws.{idle_is_over}
use Rattle.jr_laws_steps.proofs.idle.idle_is_complete.Goals as goal

pub returns : goal.returns
returns c = idle_is_over
