use Rattle.jr_io_blocks.specs.Parts.{named_view}
use Rattle.jr_io_files.specs.Engines.{opened_view}
use Rattle.jr_io_files.proofs.EngineLemmas.{one_more}
use Rattle.jr_io_files.proofs.file_engine.FileEngine+NamedFile.new.Goals as goal

pub loop-index-preserved : goal.loop-index-preserved
loop-index-preserved g c =
    one_more named_view opened_view c.args.plan.now.files c.files-spec-items.result.now _ _ c.loop-index.index _ _
    c.files-spec-items.ensures.value
    c.loop-index-test.true
    c.spec-item.is
    c.in_ok-opened_file.ensures.ok
    c.loop-index.invariant
    c.in_ok-push.ensures.items
