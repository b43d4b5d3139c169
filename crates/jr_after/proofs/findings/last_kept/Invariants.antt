use Rattle.std.proofs.Common.{◌≡◌, drop}
use Rattle.std.specs.Prelude.{max}
use Rattle.jr_after.specs.Findings.{last_kept}
use Rattle.jr_after.proofs.findings.last_kept.Given as goal

abbrev pub invariant-loop-named : goal.invariant-loop-named
invariant-loop-named l = max l.last (last_kept l.kept (drop l.named-index l.over)) ≡ last_kept l.kept l.over
