use Rattle.std.proofs.Common.{◌≡◌, false, take}
use Rattle.std.specs.List.{list_any}
use Rattle.jr_io_files.specs.Uses.{writes_file}
use Rattle.jr_io_files.proofs.uses.is_written.Given as goal

abbrev pub invariant-loop-i : goal.invariant-loop-i
invariant-loop-i l = list_any (writes_file l.file) (take l.i l.plan.clones) ≡ false
