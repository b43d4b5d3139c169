use Rattle.std.proofs.Common.{◌≡◌, drop}
use Rattle.jr_after.specs.Findings.{is_kept}
use Rattle.jr_after.proofs.findings.is_kept.Given as goal

-- it is among those still to come
abbrev pub invariant-loop-named : goal.invariant-loop-named
invariant-loop-named l = is_kept l.last (drop l.named-index l.over) l.chunk l.bytes ≡ is_kept l.last l.over l.chunk l.bytes
