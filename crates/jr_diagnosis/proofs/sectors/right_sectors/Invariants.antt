use Rattle.std.proofs.Common.{◌≡◌, ◌≤◌}
use Rattle.jr_diagnosis.specs.Sectors.{right_among}
use Rattle.jr_diagnosis.proofs.sectors.right_sectors.Given as goal

abbrev pub invariant-loop-i : goal.invariant-loop-i
invariant-loop-i l = record { right : l.right ≡ right_among l.written l.read l.i; few : l.right ≤ l.i }
