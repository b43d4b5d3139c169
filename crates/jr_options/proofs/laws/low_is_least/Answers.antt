use Rattle.jr_options.proofs.FileEnds.{least_low}
use Rattle.jr_options.proofs.laws.low_is_least.Goals as goal

pub returns : goal.returns
returns c = least_low
