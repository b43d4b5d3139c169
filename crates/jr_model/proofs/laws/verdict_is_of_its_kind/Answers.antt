use Rattle.jr_model.proofs.MachineLaws.{verdict_of_fits}
use Rattle.jr_model.proofs.laws.verdict_is_of_its_kind.Goals as goal

pub returns : goal.returns
returns c = verdict_of_fits
