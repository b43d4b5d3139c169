use Rattle.std.proofs.Common.{◌≡◌}
use Rattle.jr_rounds.specs.Originals.{totals_by_original}
use Rattle.jr_rounds.proofs.originals.totals_by_original.Given as goal

-- the sums of the clones so far
abbrev pub invariant-loop-clone : goal.invariant-loop-clone
invariant-loop-clone l = l.sums.items ≡ totals_by_original l.clone l.originals l.totals
