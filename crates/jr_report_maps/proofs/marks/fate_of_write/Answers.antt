use Rattle.std.proofs.Common.{◌∙◌, sym}
use Rattle.std.specs.List.{list_any}
use Rattle.jr_model.specs.History.{started}
use Rattle.jr_report_maps.specs.Maps.{judges, skips}
use Rattle.jr_report_maps.proofs.Cells.{said_judged, said_nothing, said_skipped}
use Rattle.jr_report_maps.proofs.marks.fate_of_write.Goals as goal

pub returns-then-is_skipped : goal.returns-then-is_skipped
returns-then-is_skipped c = λ history told.
    said_skipped (list_any (skips c.args.write.now) history) (list_any (judges (started history) c.args.write.now) history)
    (sym (c.is_skipped.ensures history told) ∙ c.if-is_skipped.true)

pub returns-then-is_judged : goal.returns-then-is_judged
returns-then-is_judged c = λ history told.
    said_judged (list_any (skips c.args.write.now) history) (list_any (judges (started history) c.args.write.now) history)
    (sym (c.is_skipped.ensures history told) ∙ c.if-is_skipped.false)
    (sym (c.is_judged.ensures history told) ∙ c.if-is_judged.true)

pub returns : goal.returns
returns c = λ history told.
    said_nothing (list_any (skips c.args.write.now) history) (list_any (judges (started history) c.args.write.now) history)
    (sym (c.is_skipped.ensures history told) ∙ c.if-is_skipped.false)
    (sym (c.is_judged.ensures history told) ∙ c.if-is_judged.false)
