use Rattle.jr_laws_rounds.proofs.CurrentLaws.{left_unsettled-law}
use Rattle.jr_laws_rounds.proofs.rounds.left_are_unsettled.Goals as goal

pub returns : goal.returns
returns c = left_unsettled-law
