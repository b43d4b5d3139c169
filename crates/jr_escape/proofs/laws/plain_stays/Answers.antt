use Rattle.jr_escape.proofs.ShownLemmas.{plain_same}
use Rattle.jr_escape.proofs.laws.plain_stays.Goals as goal

pub returns : goal.returns
returns c = plain_same
