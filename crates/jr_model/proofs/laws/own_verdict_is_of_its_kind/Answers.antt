use Rattle.jr_model.proofs.MachineLaws.{own_verdict_fits}
use Rattle.jr_model.proofs.laws.own_verdict_is_of_its_kind.Goals as goal

pub returns : goal.returns
returns c = own_verdict_fits
