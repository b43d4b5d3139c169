use Rattle.std.proofs.Common.{◌≡◌, take}
use Rattle.jr_rounds.specs.Sums.{sum_of}
use Rattle.jr_rounds.proofs.sums.total_of.Given as goal

-- what was added so far
abbrev pub invariant-loop-i : goal.invariant-loop-i
invariant-loop-i l = l.sum ≡ sum_of (take l.i l.totals)
