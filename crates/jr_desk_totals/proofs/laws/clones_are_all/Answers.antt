use Rattle.jr_desk_totals.proofs.Compared.{clones_all}
use Rattle.jr_desk_totals.proofs.laws.clones_are_all.Goals as goal

pub returns : goal.returns
returns c = clones_all
