use Rattle.std.proofs.Common.{◌≡◌, ◌≤◌, ◌*◌, ◌^◌, take}
use Rattle.jr_system.specs.Extents.{extent_of}
use Rattle.jr_system.proofs.extents.PlanBytes.of.Given as goal

abbrev pub invariant-loop-place : goal.invariant-loop-place
invariant-loop-place l = record { total : l.bytes ≡ extent_of (take l.place l.plan.clones); few : l.bytes ≤ l.place * 2 ^ 55 }
