use Rattle.jr_laws_log.proofs.FlyingLaws.{others_fly_on}
use Rattle.jr_laws_log.proofs.flying.others_fly_on.Goals as goal

pub returns : goal.returns
returns c = others_fly_on
