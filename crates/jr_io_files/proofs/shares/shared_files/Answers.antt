use Rattle.std.proofs.Common.{refl}
use Rattle.jr_io_files.specs.Opened.{shared_view}
use Rattle.jr_io_files.proofs.EngineLemmas.{one_more}
use Rattle.jr_io_files.proofs.shares.shared_files.Goals as goal

pub loop-file-preserved : goal.loop-file-preserved
loop-file-preserved c =
    one_more shared_view shared_view c.args.files.now c.args.files.now _ _ c.loop-file.file-index _ _ refl c.loop-file-test.true c.file-item.is c.in_ok-share_with.ensures c.loop-file.invariant c.in_ok-push.ensures.items
