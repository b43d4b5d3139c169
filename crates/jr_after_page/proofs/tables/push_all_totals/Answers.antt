use Rattle.std.proofs.Common.{◌++◌, string_bytes, ap, ◌∙◌}
use Rattle.jr_after_report.specs.Reports.{FileState}
use Rattle.jr_model.proofs.ListLemmas.{flat_map_so_far}
use Rattle.jr_after_page.specs.Rows.{file_row}
use Rattle.jr_after_page.proofs.tables.push_all_totals.Goals as goal

pub loop-one-preserved : goal.loop-one-preserved
loop-one-preserved c =
    let row = file_row c.args.plan.now c.args.unread.now in
    flat_map_so_far row (string_bytes c.args.page.now) (string_bytes c.loop-one.page) (string_bytes c.push_totals.new.page) c.args.found.now
    c.loop-one.one-index c.one-item.result c.loop-one-test.true c.loop-one.invariant
    (c.in_ok-push_totals.ensures ∙ ap (λ (one : FileState). string_bytes c.loop-one.page ++ row one) c.one-item.is)
