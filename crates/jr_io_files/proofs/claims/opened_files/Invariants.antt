use Rattle.std.proofs.Common.{◌≡◌, map, take}
use Rattle.jr_io_files.specs.Engines.{opened_views}
use Rattle.jr_io_files.specs.Opened.{shared_view}
use Rattle.jr_io_files.proofs.claims.opened_files.Given as goal

abbrev pub invariant-loop-index : goal.invariant-loop-index
invariant-loop-index g l = map shared_view l.files.items ≡ opened_views (take l.index l.plan.files)
