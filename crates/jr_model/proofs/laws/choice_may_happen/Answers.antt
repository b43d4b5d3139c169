use Rattle.jr_model.proofs.LegalLaws.{choice_may_happen}
use Rattle.jr_model.proofs.laws.choice_may_happen.Goals as goal

pub returns : goal.returns
returns c = choice_may_happen
