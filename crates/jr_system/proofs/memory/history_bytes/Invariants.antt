use Rattle.std.proofs.Common.{◌≡◌, ◌≤◌, ◌*◌, ◌^◌, take}
use Rattle.std.specs.Prelude.{sum_by}
use Rattle.jr_system.specs.Memory.{ios_of}
use Rattle.jr_system.proofs.memory.history_bytes.Given as goal

abbrev pub invariant-loop-place : goal.invariant-loop-place
invariant-loop-place l = record { total : l.ios ≡ sum_by ios_of (take l.place l.plan.clones); few : l.ios ≤ l.place * 2 ^ 31 }
