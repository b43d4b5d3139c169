use Rattle.std.proofs.Common.{◌∙◌, List, map, ap, subst, sym}
use Rattle.jr_model.specs.declared.events.Event.{Event}
use Rattle.jr_model.specs.Plan.{Plan}
use Rattle.jr_model.specs.Report.{in_order}
use Rattle.jr_desk_totals.specs.Bads.{miscompare_of}
use Rattle.jr_cli_ends.specs.Findings.{AreFindings}
use Rattle.jr_cli_ends.proofs.findings.Findings.of_desk.Goals as goal

pub invariant_of-result : goal.invariant_of-result
invariant_of-result c =
    let Found : Plan → List Event → Type 0 = λ plan history.
    AreFindings plan history c.totals.result.now c.in_ok-from_slice.field-0.items c.in_ok-bads_in_order.field-0.items c.in_ok-faults_found.field-0 c.is_complete.result in
    subst (λ (plan : Plan). Found plan c.history.result.now) (sym c.plan-plan.ensures)
    (subst (λ (history : List Event). Found c.args.desk.now.plan history) (sym c.history.ensures.value)
    (record {
      legal = c.history.ensures.legal;
      totals = c.totals.ensures;
      bads = ap (map miscompare_of) c.in_ok-from_slice.ensures.items ∙ c.bads-bads.ensures.value;
      sorted =
          c.in_ok-bads_in_order.ensures
          ∙ ap (λ (plan : Plan). in_order plan (map miscompare_of c.bads-bads.result.now)) c.plan-plan.ensures
          ∙ ap (in_order c.args.desk.now.plan) c.bads-bads.ensures.value;
      faults = c.in_ok-faults_found.ensures;
      complete = c.is_complete.ensures;
    }))
