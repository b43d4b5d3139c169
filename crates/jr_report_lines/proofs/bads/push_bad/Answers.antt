use Rattle.std.proofs.Common.{◌∙◌}
use Rattle.std.specs.Prelude.{codes}
use Rattle.jr_model.specs.Plan.{clone_of}
use Rattle.jr_model.specs.Report.{field, file_name, found_word, what_text}
use Rattle.jr_report_lines.specs.Miscompares.{named_fields, place_fields}
use Rattle.jr_report_lines.proofs.ReportLemmas.{chained, regrouped}
use Rattle.jr_report_lines.proofs.bads.push_bad.Goals as goal

pub returns : goal.returns
returns c =
    let plan = c.args.plan.now in
    let start = c.args.text.now.items in
    let w = c.args.bad.now.write in
    let p = c.args.bad.now.piece in
    let what = c.args.bad.now.what in
    let found = found_word (clone_of plan w.clone) in
    chained start c.push_found.new.text.items c.push_named.new.text.items c.push_place.new.text.items c.push_text.new.text.items c.push_what.new.text.items c.push_text-2.new.text.items
    found (named_fields w) (place_fields plan p) (codes " what=") (what_text what) (codes "\n")
    c.in_ok-push_found.ensures c.in_ok-push_named.ensures c.in_ok-push_place.ensures c.in_ok-push_text.ensures c.in_ok-push_what.ensures c.in_ok-push_text-2.ensures
    ∙ regrouped start found (field (codes "clone") w.clone) (field (codes "pass") w.pass) (field (codes "number") w.number)
    (codes " file=") (file_name plan p.file) (field (codes "offset") p.offset) (field (codes "length") p.len) (codes " what=") (what_text what) (codes "\n")
