use Rattle.jr_laws_rounds.proofs.StandingFinished.{clone_finished_by_standing-law}
use Rattle.jr_laws_rounds.proofs.standing.clone_finished_by_standing.Goals as goal

pub returns : goal.returns
returns c = clone_finished_by_standing-law
