use Rattle.jr_desk_totals.proofs.Bads.{ends_counted}
use Rattle.jr_desk_totals.proofs.laws.ends_are_counted.Goals as goal

pub returns : goal.returns
returns c = ends_counted
