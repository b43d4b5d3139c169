use Rattle.jr_laws_rounds.proofs.CurrentLaws.{waits-law}
use Rattle.jr_laws_rounds.proofs.rounds.waits_under_way.Goals as goal

pub returns : goal.returns
returns c = waits-law
