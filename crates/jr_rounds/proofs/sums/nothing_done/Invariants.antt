use Rattle.std.proofs.Common.{◌≡◌, replicate}
use Rattle.jr_rounds.specs.Adding.{nothing_done}
use Rattle.jr_rounds.proofs.sums.nothing_done.Given as goal

abbrev pub invariant-loop : goal.invariant-loop
invariant-loop l = l.totals.items ≡ replicate l.counter nothing_done
