use Rattle.std.proofs.Common.{◌≡◌, ◌++◌, drop, flat_map}
use Rattle.jr_after.specs.Writes.{writes_of, writes_of_clone}
use Rattle.jr_after_plans.proofs.planned.all_writes.Given as goal

-- the writes so far, and those of the other clones
abbrev pub invariant-loop-i : goal.invariant-loop-i
invariant-loop-i l = l.writes.items ++ flat_map writes_of_clone (drop l.i l.plan.clones) ≡ writes_of l.plan
