use Rattle.jr_desk_totals.proofs.Few.{one_clone_changes}
use Rattle.jr_desk_totals.proofs.laws.one_clone_changes.Goals as goal

pub returns : goal.returns
returns c = one_clone_changes
