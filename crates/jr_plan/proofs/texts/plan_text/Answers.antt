use Rattle.std.proofs.Common.{List, ◌++◌, string_bytes, ap, ◌∙◌}
use Rattle.jr_model.specs.Plan.{FileSpec}
use Rattle.jr_plan.specs.PlanText.{clone_line, plan_text}
use Rattle.jr_plan.proofs.ListLemmas.{flat_map-further}
use Rattle.jr_plan.proofs.texts.plan_text.Goals as goal

pub loop-i-preserved : goal.loop-i-preserved
loop-i-preserved c =
    let plan = c.args.plan.now in
    flat_map-further (clone_line plan.files) plan.clones c.loop-i.i c.clone_at.result.now (string_bytes c.loop-i.text) (string_bytes c.push_clone.new.text) (plan_text plan) c.clone_at.ensures.value c.loop-i.invariant (c.in_ok-push_clone.ensures ∙ ap (λ (fs : List FileSpec). string_bytes c.loop-i.text ++ clone_line fs c.clone_at.result.now) c.files.ensures.value)
