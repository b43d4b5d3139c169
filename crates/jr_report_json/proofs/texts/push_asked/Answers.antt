use Rattle.std.proofs.Common.{◌++◌, ◌≤◌, List, length, map, ap, sym, ◌∙◌, arith}
use Rattle.jr_model.specs.Plan.{SubJob}
use Rattle.jr_report_json.specs.Json.{asked_json}
use Rattle.jr_report_json.specs.Rows.{rest_text}
use Rattle.jr_report_json.proofs.Items.{none_past, rows_more, written_more}
use Rattle.jr_report_json.proofs.texts.push_asked.Goals as goal

pub loop-i-preserved : goal.loop-i-preserved
loop-i-preserved c =
    let plan = c.args.plan.now in
    written_more c.loop-i.text.items c.push_job.new.text.items _ _ _ _ c.loop-i.invariant
    (rows_more (asked_json plan) plan.clones c.loop-i.i c.clone_at.result.now c.clone_at.ensures.value)
    c.in_ok-push_job.ensures

pub returns : goal.returns
returns c =
    let plan = c.args.plan.now in
    let past : length plan.clones ≤ c.loop-i.i = omega arith in
    c.in_ok-push_text-2.ensures
    ∙ ap (λ (left : List SubJob). c.loop-i.text.items ++ rest_text c.loop-i.i (map (asked_json plan) left))
    (sym (none_past plan.clones c.loop-i.i past))
    ∙ c.loop-i.invariant
