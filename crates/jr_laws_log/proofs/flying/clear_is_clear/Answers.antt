use Rattle.jr_laws_log.proofs.FlyingLaws.{clear_is_clear}
use Rattle.jr_laws_log.proofs.flying.clear_is_clear.Goals as goal

pub returns : goal.returns
returns c = clear_is_clear
