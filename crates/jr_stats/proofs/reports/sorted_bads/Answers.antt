use Rattle.std.proofs.Common.{◌≡◌, ◌∙◌, true, map, subst, sym, ap}
use Rattle.std.proofs.lemmas.Result.{IfOk-weaker}
use Rattle.jr_model.specs.Legal.{is_legal}
use Rattle.jr_model.specs.Plan.{Plan}
use Rattle.jr_model.specs.Report.{in_order}
use Rattle.jr_desk_totals.specs.Bads.{miscompare_of}
use Rattle.jr_stats.proofs.reports.sorted_bads.Goals as goal

pub bads_in_order-requires : goal.bads_in_order-requires
bads_in_order-requires c =
    let history = c.args.desk.now.history in
    (history, subst (λ (plan : Plan). is_legal plan history ≡ true) (sym c.plan.ensures) c.bads.ensures.legal, c.bads.ensures.value)

pub returns : goal.returns
returns c =
    IfOk-weaker c.bads_in_order.result _ _ (λ sorted same.
    same ∙ ap (λ (plan : Plan). in_order plan (map miscompare_of c.bads.result.now)) c.plan.ensures
    ∙ ap (in_order c.args.desk.now.plan) c.bads.ensures.value) c.bads_in_order.ensures
