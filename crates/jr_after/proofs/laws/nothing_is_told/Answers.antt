use Rattle.jr_after.proofs.Told.{nothing_is_told}
use Rattle.jr_after.proofs.laws.nothing_is_told.Goals as goal

pub returns : goal.returns
returns c = nothing_is_told
