use Rattle.jr_io_devices.specs.Extents.{AreClear}
use Rattle.jr_io_devices.proofs.extents.first_overlap.Given as goal

abbrev pub invariant-loop-second : goal.invariant-loop-second
invariant-loop-second l = AreClear l.extents l.second
