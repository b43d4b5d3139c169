use Rattle.std.proofs.Common.{Some, sym, ap, ◌∙◌}
use Rattle.std.proofs.lemmas.Option.{slice_get-get_or}
use Rattle.jr_report_json.proofs.Items.{rows_more, written_more}
use Rattle.jr_after_json.specs.Json.{file_json}
use Rattle.jr_after_json.proofs.texts.push_files.Goals as goal

pub loop-i-preserved : goal.loop-i-preserved
loop-i-preserved c =
    written_more c.loop-i.text.items c.push_file.new.text.items _ _ _ _ c.loop-i.invariant
    (rows_more (file_json c.args.plan.now c.args.unread.now) c.args.found.now c.loop-i.i c.index-found-i.result
    (slice_get-get_or c.args.found.now c.loop-i.i c.index-found-i.result c.loop-i-test.true ∙ ap (λ f. Some f) (sym c.index-found-i.is)))
    c.in_ok-push_file.ensures
