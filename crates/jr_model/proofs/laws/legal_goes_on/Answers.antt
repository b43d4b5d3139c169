use Rattle.jr_model.proofs.LegalLaws.{is_legal-more}
use Rattle.jr_model.proofs.laws.legal_goes_on.Goals as goal

pub returns : goal.returns
returns c = is_legal-more
