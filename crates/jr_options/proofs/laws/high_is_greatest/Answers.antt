use Rattle.jr_options.proofs.FileEnds.{greatest_high}
use Rattle.jr_options.proofs.laws.high_is_greatest.Goals as goal

pub returns : goal.returns
returns c = greatest_high
