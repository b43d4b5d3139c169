use Rattle.std.proofs.Common.{List, ◌++◌, string_bytes, ap, ◌∙◌}
use Rattle.std.specs.Prelude.{flat_map}
use Rattle.jr_model.specs.Plan.{FileSpec}
use Rattle.jr_report_page.specs.Rows.{clone_row}
use Rattle.jr_plan.proofs.ListLemmas.{flat_map-further}
use Rattle.jr_report_page.proofs.plans.push_clones.Goals as goal

pub loop-i-preserved : goal.loop-i-preserved
loop-i-preserved c =
    let plan = c.args.plan.now in
    flat_map-further (clone_row plan.files) plan.clones c.loop-i.i c.clone_at.result.now (string_bytes c.loop-i.page) (string_bytes c.push_clone.new.page)
    (string_bytes c.args.page.now ++ flat_map (clone_row plan.files) plan.clones) c.clone_at.ensures.value c.loop-i.invariant
    (c.in_ok-push_clone.ensures ∙ ap (λ (fs : List FileSpec). string_bytes c.loop-i.page ++ clone_row fs c.clone_at.result.now) c.files.ensures.value)
