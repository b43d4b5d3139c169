use Rattle.jr_laws_rounds.proofs.ChoiceLaws.{choice_by_standing-law}
use Rattle.jr_laws_rounds.proofs.CurrentLaws.{waits-law, left_in_pass-law, left_unsettled-law}
use Rattle.jr_laws_rounds.proofs.standing.choice_by_standing.Goals as goal

pub returns : goal.returns
returns c = choice_by_standing-law waits-law left_in_pass-law left_unsettled-law
