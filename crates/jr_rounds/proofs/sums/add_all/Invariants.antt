use Rattle.std.proofs.Common.{◌≡◌, take}
use Rattle.jr_rounds.specs.Adding.{all_added}
use Rattle.jr_rounds.proofs.sums.add_all.Given as goal

-- what was added so far
abbrev pub invariant-loop-i : goal.invariant-loop-i
invariant-loop-i l = l.sums ≡ all_added l.fn.sums (take l.i l.totals)
