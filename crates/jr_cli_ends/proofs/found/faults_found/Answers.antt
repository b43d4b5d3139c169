use Rattle.std.proofs.Common.{List, refl, sym, ap, ◌∙◌, subst}
use Rattle.jr_model.specs.declared.totals.Totals.{Totals}
use Rattle.jr_model.specs.Plan.{Plan}
use Rattle.jr_model.specs.PlanFacts.{IsPlanned}
use Rattle.jr_cli_ends.specs.Status.{status_of}
use Rattle.jr_cli_ends.proofs.FaultlessRuns.{no_faults}
use Rattle.jr_cli_ends.proofs.found.faults_found.Goals as goal

pub returns-then-status_of-eq0 : goal.returns-then-status_of-eq0
returns-then-status_of-eq0 c =
    no_faults c.args.desk.now.plan c.args.desk.now.history (record { first = c.new.result; more = 0 })
    (subst (λ (plan : Plan). IsPlanned plan) c.plan-plan.ensures c.facts.ensures) c.history-history.ensures.legal
    (ap (λ (totals : List Totals). status_of totals) (sym c.totals.ensures) ∙ sym c.status_of.ensures ∙ c.if-status_of-eq0.true)
    c.new.ensures.items refl
