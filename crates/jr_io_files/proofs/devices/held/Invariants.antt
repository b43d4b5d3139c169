use Rattle.std.proofs.Common.{◌≡◌, map}
use Rattle.std.specs.List.{range_with_len}
use Rattle.jr_io_files.specs.Devices.{needs_hold}
use Rattle.jr_io_files.proofs.devices.held.Given as goal

abbrev pub invariant-loop-index : goal.invariant-loop-index
invariant-loop-index g l = l.held.items ≡ map (needs_hold l.plan.clones l.files) (range_with_len 0 l.index)
