use Rattle.std.proofs.Common.{◌≡◌, map, take}
use Rattle.jr_io_files.specs.Opened.{shared_view}
use Rattle.jr_io_files.specs.ToRead.{views_to_read}
use Rattle.jr_io_files.proofs.to_read.opened_to_read.Given as goal

abbrev pub invariant-loop-index : goal.invariant-loop-index
invariant-loop-index g l = map shared_view l.files.items ≡ views_to_read l.plan.clones 0 (take l.index l.plan.files)
