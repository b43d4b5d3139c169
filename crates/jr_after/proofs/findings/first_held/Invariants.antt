use Rattle.std.proofs.Common.{◌≡◌, drop}
use Rattle.jr_after.specs.Findings.{first_such, is_held}
use Rattle.jr_after.proofs.findings.first_held.Given as goal

-- it is among those still to come
abbrev pub invariant-loop-named : goal.invariant-loop-named
invariant-loop-named l = first_such (is_held l.chunk l.bytes) (drop l.named-index l.over) ≡ first_such (is_held l.chunk l.bytes) l.over
