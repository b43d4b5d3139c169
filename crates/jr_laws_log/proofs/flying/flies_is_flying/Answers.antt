use Rattle.jr_laws_log.proofs.FlyingLaws.{flies_is_flying}
use Rattle.jr_laws_log.proofs.flying.flies_is_flying.Goals as goal

pub returns : goal.returns
returns c = flies_is_flying
