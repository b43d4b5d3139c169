use Rattle.jr_desk_totals.proofs.Few.{counts_few}
use Rattle.jr_desk_totals.proofs.laws.counts_are_few.Goals as goal

pub returns : goal.returns
returns c = counts_few
