use Rattle.jr_model.proofs.MachineLaws.{legal_run}
use Rattle.jr_model.proofs.laws.every_run_is_legal.Goals as goal

pub returns : goal.returns
returns c = legal_run
