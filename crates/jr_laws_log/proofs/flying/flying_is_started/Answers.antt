use Rattle.jr_laws_log.proofs.FlyingLaws.{flying_is_started}
use Rattle.jr_laws_log.proofs.flying.flying_is_started.Goals as goal

pub returns : goal.returns
returns c = flying_is_started
