use Rattle.jr_desk_totals.proofs.Compared.{tests_compared}
use Rattle.jr_desk_totals.proofs.laws.tests_are_compared.Goals as goal

pub returns : goal.returns
returns c = tests_compared
