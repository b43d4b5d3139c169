use Rattle.jr_escape.proofs.ShownLemmas.{nothing_hidden}
use Rattle.jr_escape.proofs.laws.shown_hides_nothing.Goals as goal

pub returns : goal.returns
returns c = nothing_hidden
