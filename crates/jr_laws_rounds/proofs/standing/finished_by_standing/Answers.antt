use Rattle.jr_laws_rounds.proofs.CurrentLaws.{closed_at_end-law}
use Rattle.jr_laws_rounds.proofs.StandingFinished.{finished_by_standing-law}
use Rattle.jr_laws_rounds.proofs.standing.finished_by_standing.Goals as goal

pub returns : goal.returns
returns c = finished_by_standing-law closed_at_end-law
