use Rattle.jr_laws_rounds.proofs.CurrentLaws.{closed_at_end-law}
use Rattle.jr_laws_rounds.proofs.rounds.closed_at_end.Goals as goal

pub returns : goal.returns
returns c = closed_at_end-law
