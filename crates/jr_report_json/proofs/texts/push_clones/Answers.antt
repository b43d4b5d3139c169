use Rattle.std.proofs.Common.{◌++◌, ◌≤◌, ◌<◌, List, min, length, ap, sym, ◌∙◌, arith}
use Rattle.serde_json.specs.Data.{Data}
use Rattle.jr_report_json.specs.Rows.{rest_text}
use Rattle.jr_report_json.proofs.Items.{clones_more, clones_none, written_more}
use Rattle.jr_report_json.proofs.texts.push_clones.Goals as goal

pub loop-i-preserved : goal.loop-i-preserved
loop-i-preserved c =
    let within : c.loop-i.i < length c.args.totals.now = omega arith in
    written_more c.loop-i.text.items c.push_clone.new.text.items _ _ _ _ c.loop-i.invariant
    (clones_more c.args.plan.now.clones c.args.totals.now c.loop-i.i c.clone_at.result.now _ c.clone_at.ensures.value within)
    c.in_ok-push_clone.ensures

pub returns : goal.returns
returns c =
    let past : min (length c.args.plan.now.clones) (length c.args.totals.now) ≤ c.loop-i.i = omega arith in
    c.in_ok-push_text-2.ensures
    ∙ ap (λ (ds : List Data). c.loop-i.text.items ++ rest_text c.loop-i.i ds) (sym (clones_none c.args.plan.now.clones c.args.totals.now c.loop-i.i past))
    ∙ c.loop-i.invariant
