use Rattle.std.proofs.Common.{◌≡◌, ℕ, ◌<◌, true}
use Rattle.jr_after.specs.Findings.{is_sector_held}
use Rattle.jr_after.proofs.findings.is_torn.Given as goal

-- each so far is
abbrev pub invariant-loop-i : goal.invariant-loop-i
invariant-loop-i l = (k : ℕ) → k < l.i → is_sector_held l.last l.over l.chunk l.bytes k ≡ true
