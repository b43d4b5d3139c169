use Rattle.std.proofs.Common.{◌≡◌, map}
use Rattle.std.specs.List.{range_with_len}
use Rattle.jr_diagnosis.specs.Sectors.{is_right}
use Rattle.jr_diagnosis.proofs.sectors.first_sectors.Given as goal

abbrev pub invariant-loop-i : goal.invariant-loop-i
invariant-loop-i l = l.sectors.items ≡ map (is_right l.written l.read) (range_with_len 0 l.i)
