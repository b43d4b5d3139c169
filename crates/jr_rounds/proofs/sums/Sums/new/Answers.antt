use Rattle.std.proofs.Common.{refl}
use Rattle.jr_rounds.proofs.SumLemmas.{sums_of_none}
use Rattle.jr_rounds.proofs.sums.Sums.new.Goals as goal

pub returns-clause-none : goal.returns-clause-none
returns-clause-none c = sums_of_none c.clones.result _ refl c.in_ok-nothing_done.ensures
