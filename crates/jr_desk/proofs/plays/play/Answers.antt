use Rattle.std.proofs.Common.{sym, ◌∙◌, ap, subst}
use Rattle.jr_model.specs.Machine.{first_state, machine_run}
use Rattle.jr_model.specs.Plan.{Plan}
use Rattle.jr_model.specs.PlanFacts.{IsPlanned}
use Rattle.jr_desk.specs.DeskOf.{desk_in}
use Rattle.jr_desk.proofs.plays.play.Goals as goal

pub answer_all-requires-clause-planned : goal.answer_all-requires-clause-planned
answer_all-requires-clause-planned c = subst IsPlanned (sym c.in_ok-player.ensures.plan) c.facts.ensures

pub answer_all-requires-clause-first : goal.answer_all-requires-clause-first
answer_all-requires-clause-first c = c.in_ok-player.ensures.first ∙ ap first_state (sym c.in_ok-player.ensures.plan)

pub returns-clause-replies : goal.returns-clause-replies
returns-clause-replies c =
    ap (λ replies. replies.items) c.into_played.ensures.replies ∙ c.in_ok-replies.ensures.replies
    ∙ ap (λ (plan : Plan). (machine_run plan (first_state plan) c.args.steps.now).replies) c.in_ok-player.ensures.plan

pub returns-clause-desk : goal.returns-clause-desk
returns-clause-desk c =
    c.into_played.ensures.desk ∙ c.in_ok-replies.ensures.desk
    ∙ ap (λ (plan : Plan). desk_in plan (machine_run plan (first_state plan) c.args.steps.now).state) c.in_ok-player.ensures.plan
