use Rattle.std.proofs.Common.{sym, ap, ◌∙◌, Some}
use Rattle.std.proofs.lemmas.Option.{slice_get-get_or}
use Rattle.jr_io_files.proofs.ToReadLemmas.{one_opened_more}
use Rattle.jr_io_files.proofs.to_read.opened_to_read.Goals as goal

pub loop-index-preserved : goal.loop-index-preserved
loop-index-preserved g c =
    one_opened_more _ _ _ _ _ _ _ _
    c.files-spec-items.ensures.value
    (slice_get-get_or c.files-spec-items.result.now c.loop-index.index c.spec-item.result c.loop-index-test.true ∙ ap (λ f. Some f) (sym c.spec-item.is))
    c.loop-index.invariant
    c.in_ok-file_to_read.ensures.ok
    c.in_ok-push.ensures.items
