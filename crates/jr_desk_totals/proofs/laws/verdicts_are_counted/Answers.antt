use Rattle.jr_desk_totals.proofs.Bads.{verdicts_counted}
use Rattle.jr_desk_totals.proofs.laws.verdicts_are_counted.Goals as goal

pub returns : goal.returns
returns c = verdicts_counted
