use Rattle.jr_laws_log.proofs.FlyingLaws.{ended_flies_no_more}
use Rattle.jr_laws_log.proofs.flying.ended_flies_no_more.Goals as goal

pub returns : goal.returns
returns c = ended_flies_no_more
