use Rattle.std.proofs.Common.{◌≡◌, map, take}
use Rattle.jr_io_blocks.specs.Parts.{named_view}
use Rattle.jr_io_files.specs.Engines.{opened_views}
use Rattle.jr_io_files.proofs.file_engine.FileEngine+NamedFile.new.Given as goal

abbrev pub invariant-loop-index : goal.invariant-loop-index
invariant-loop-index g l = map named_view l.files.items ≡ opened_views (take l.index l.plan.files)
