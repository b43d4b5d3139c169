use Rattle.jr_io_devices.specs.Extents.{IsClearOf}
use Rattle.jr_io_devices.proofs.extents.overlap_before.Given as goal

abbrev pub invariant-loop-first : goal.invariant-loop-first
invariant-loop-first l = IsClearOf l.extents l.first l.place
