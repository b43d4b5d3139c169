use Rattle.std.proofs.Common.{◌≡◌, take}
use Rattle.jr_rounds.specs.Originals.{of_original}
use Rattle.jr_rounds.specs.Sums.{sum_of}
use Rattle.jr_rounds.proofs.originals.sum_of.Given as goal

-- what the parts did so far
abbrev pub invariant-loop-i : goal.invariant-loop-i
invariant-loop-i l = l.sum ≡ sum_of (of_original l.clone (take l.i l.originals) (take l.i l.totals))
