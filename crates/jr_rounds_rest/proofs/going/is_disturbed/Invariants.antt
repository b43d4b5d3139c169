use Rattle.std.proofs.Common.{◌≡◌, false, take}
use Rattle.std.specs.List.{list_any}
use Rattle.jr_rounds_rest.specs.Left.{disturbs}
use Rattle.jr_rounds_rest.proofs.going.is_disturbed.Given as goal

abbrev pub invariant-loop-i : goal.invariant-loop-i
invariant-loop-i l = list_any (disturbs l.job) (take l.i l.plan.clones) ≡ false
