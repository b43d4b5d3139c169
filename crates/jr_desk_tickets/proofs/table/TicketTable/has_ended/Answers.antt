use Rattle.std.proofs.Common.{◌≡◌, Bool, true, false, cond, not, refl, sym, ◌∙◌, ap}
use denote.Enum.Bare.{sameb}
use Rattle.std.specs.Prelude.{Option, Some, None, is_some}
use Rattle.jr_model.specs.declared.events.Outcome.{Outcome}
use Rattle.jr_model.specs.declared.events.Outcome.TheVariants.{Whole, Failed, Short}
use Rattle.jr_model.specs.History.{outcome_of, is_judged}
use Rattle.jr_model.specs.Races.{has_raced}
use Rattle.jr_laws_steps.proofs.JudgedEnded.{judged_ended}
use Rattle.jr_laws_steps.proofs.Grown.{not_ended_yet}
use Rattle.jr_desk_tickets.specs.contracts.table.IoState.{the_type}
use Rattle.jr_desk_tickets.specs.declared.table.IoState.{IoState}
use Rattle.jr_desk_tickets.specs.declared.table.IoState.TheVariants as states
use Rattle.jr_desk_tickets.specs.Handing.{by_outcome}
use Rattle.jr_desk_tickets.proofs.HandingReads.{found_there, past_started, within_started}
use Rattle.jr_desk_tickets.proofs.table.TicketTable.has_ended.Goals as goal

ended : (judged raced : Bool) (o : Option Outcome) → (judged ≡ true → o ≡ Some Whole)
    → not (sameb the_type (cond judged states.Judged (by_outcome raced o)) states.InFlight) ≡ is_some o
ended true raced o whole = sym (ap is_some (whole refl))
ended false raced None whole = refl
ended false true (Some Whole) whole = refl
ended false false (Some Whole) whole = refl
ended false raced (Some Failed) whole = refl
ended false raced (Some (Short n)) whole = refl

pub returns-in-None : goal.returns-in-None
returns-in-None c plan history legal is =
    let past = past_started plan history c.args.self.now c.args.id c.deref.result.now is c.deref.ensures.value c.in-None.ensures.lookup.0 in
    sym (ap is_some (not_ended_yet plan history c.args.id legal past))

pub returns-in-Some : goal.returns-in-Some
returns-in-Some c plan history legal is =
    let below = within_started plan history c.args.self.now c.args.id c.deref.result.now is c.deref.ensures.value c.in-Some.ensures.lookup.0 in
    c.ne.ensures
    ∙ ap (λ (p : IoState). not (sameb the_type p states.InFlight))
    (found_there plan history c.args.self.now c.args.id c.deref.result.now c.in-Some.states.now is below
    c.deref.ensures.value c.in-Some.ensures.lookup.1)
    ∙ ended (is_judged history c.args.id) (has_raced history c.args.id) (outcome_of history c.args.id) (judged_ended plan history c.args.id legal)
