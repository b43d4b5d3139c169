use Rattle.std.proofs.Common.{◌≡◌, drop}
use Rattle.jr_after.specs.Findings.{is_sector_held}
use Rattle.jr_after.proofs.findings.is_sector_held.Given as goal

-- it is among those still to come
abbrev pub invariant-loop-named : goal.invariant-loop-named
invariant-loop-named l = is_sector_held l.last (drop l.named-index l.over) l.chunk l.bytes l.i ≡ is_sector_held l.last l.over l.chunk l.bytes l.i
