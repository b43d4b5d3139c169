use Rattle.jr_laws_log.proofs.FlyingLaws.{next_flies}
use Rattle.jr_laws_log.proofs.flying.next_flies.Goals as goal

pub returns : goal.returns
returns c = next_flies
