use Rattle.jr_laws_log.proofs.FlyingLaws.{next_is_free}
use Rattle.jr_laws_log.proofs.flying.next_is_free.Goals as goal

pub returns : goal.returns
returns c = next_is_free
