use Rattle.std.proofs.Common.{◌≡◌, map, take}
use Rattle.jr_io_files.specs.Opened.{shared_view}
use Rattle.jr_io_files.proofs.shares.shared_files.Given as goal

abbrev pub invariant-loop-file : goal.invariant-loop-file
invariant-loop-file l = map shared_view l.shared.items ≡ map shared_view (take l.file-index l.files)
