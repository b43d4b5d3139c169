use Rattle.std.proofs.Common.{ℕ, List, ◌++◌, codes, map, ap, ◌∙◌}
use Rattle.jr_report_faults.specs.Faults.{named}
use Rattle.jr_desk_totals.specs.Bads.{miscompare_of}
use Rattle.jr_report_json.specs.Rows.{end_text, ending_of, found_text, head_text, notes_of, plan_text, reads_text}
use Rattle.jr_report_json.proofs.Members.{five_more, report_text}
use Rattle.jr_report_json.proofs.texts.json_text.Goals as goal

pub returns : goal.returns
returns c =
    let ending = ending_of c.args.ending.now in
    let plan = c.args.plan.now in
    let totals = c.args.totals.now in
    let found = map miscompare_of c.args.bads.now in
    let faults = map named c.args.faults.now.first.items in
    let notes = notes_of c.args.notes.now in
    let more = c.args.faults.now.more in
    let empty = c.new-text.result.items in
    c.in_ok-push_text.ensures
    ∙ ap (λ (t : List ℕ). t ++ codes "\n")
    (five_more empty c.push_reads.new.text.items c.push_head.new.text.items c.push_found.new.text.items c.push_planned.new.text.items
    c.push_end.new.text.items
    (reads_text plan notes.told found) (head_text ending faults notes) (found_text ending plan totals notes.told found) (plan_text plan notes.setting more)
    (end_text ending)
    c.in_ok-push_reads.ensures
    (c.in_ok-push_head.ensures
    ∙ ap (λ (first : _). c.push_reads.new.text.items ++ head_text ending (map named first) notes) c.as_slice.ensures.value)
    c.in_ok-push_found.ensures c.in_ok-push_planned.ensures c.in_ok-push_end.ensures
    ∙ ap (λ (t : List ℕ). t ++ (reads_text plan notes.told found ++ head_text ending faults notes ++ found_text ending plan totals notes.told found
    ++ plan_text plan notes.setting more ++ end_text ending)) c.new-text.ensures.items
    ∙ report_text ending plan totals found faults notes more)
