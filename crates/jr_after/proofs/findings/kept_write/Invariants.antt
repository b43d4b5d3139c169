use Rattle.std.proofs.Common.{◌≡◌, drop}
use Rattle.std.specs.Prelude.{◌==◌}
use Rattle.jr_after.specs.declared.writes.Named.{Named}
use Rattle.jr_after.specs.Findings.{first_such, kept_number}
use Rattle.jr_after.proofs.findings.kept_write.Given as goal

-- it is among those still to come
abbrev pub invariant-loop-named : goal.invariant-loop-named
invariant-loop-named l =
    first_such (λ (named : Named). kept_number l.kept named.line == l.last) (drop l.named-index l.over)
    ≡ first_such (λ (named : Named). kept_number l.kept named.line == l.last) l.over
