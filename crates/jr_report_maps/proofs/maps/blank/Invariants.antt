use Rattle.std.proofs.Common.{◌≡◌}
use Rattle.std.specs.Prelude.{replicate}
use Rattle.jr_report_maps.specs.declared.fates.Fate.TheVariants.{Untouched}
use Rattle.jr_report_maps.proofs.maps.blank.Given as goal

abbrev pub invariant-loop-place : goal.invariant-loop-place
invariant-loop-place l = l.fates.items ≡ replicate l.place Untouched
