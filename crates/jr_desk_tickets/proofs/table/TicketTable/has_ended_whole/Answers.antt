use Rattle.std.proofs.Common.{◌≡◌, Bool, true, false, cond, refl, sym, ◌∙◌, ap, subst, inl, inr}
use Rattle.std.specs.Prelude.{◌⊎◌, Option, Some, None}
use Rattle.jr_model.specs.declared.events.Outcome.{Outcome}
use Rattle.jr_model.specs.declared.events.Outcome.TheVariants.{Whole, Failed, Short}
use Rattle.jr_model.specs.History.{outcome_of, is_judged, ended_whole}
use Rattle.jr_model.specs.Races.{has_raced}
use Rattle.jr_laws_steps.proofs.JudgedEnded.{judged_ended}
use Rattle.jr_laws_steps.proofs.Grown.{not_ended_yet}
use Rattle.jr_desk_tickets.specs.declared.table.IoState.{IoState}
use Rattle.jr_desk_tickets.specs.declared.table.IoState.TheVariants as states
use Rattle.jr_desk_tickets.specs.Handing.{by_outcome}
use Rattle.jr_desk_tickets.proofs.HandingReads.{found_there, past_started, within_started}
use Rattle.jr_desk_tickets.proofs.table.TicketTable.has_ended_whole.Goals as goal

-- the states of what ended whole
abbrev IsWhole : IoState → Type 0
IsWhole p = (p ≡ states.EndedWhole) ⊎ ((p ≡ states.Raced) ⊎ (p ≡ states.Judged))

is_whole : (judged raced : Bool) (o : Option Outcome) → (judged ≡ true → o ≡ Some Whole)
    → IsWhole (cond judged states.Judged (by_outcome raced o)) → true ≡ ended_whole o
is_whole true raced o whole h = sym (ap ended_whole (whole refl))
is_whole false raced (Some Whole) whole h = refl
is_whole false raced None whole h = elim h [ inl p ↦ cc | inr q ↦ elim q [ inl r ↦ cc | inr s ↦ cc ] ]
is_whole false raced (Some Failed) whole h = elim h [ inl p ↦ cc | inr q ↦ elim q [ inl r ↦ cc | inr s ↦ cc ] ]
is_whole false raced (Some (Short n)) whole h = elim h [ inl p ↦ cc | inr q ↦ elim q [ inl r ↦ cc | inr s ↦ cc ] ]

not_whole : (judged raced : Bool) (o : Option Outcome)
    → (IsWhole (cond judged states.Judged (by_outcome raced o)) → ⊥) → false ≡ ended_whole o
not_whole true raced o other = absurd (other (inr (inr refl)))
not_whole false raced None other = refl
not_whole false true (Some Whole) other = absurd (other (inr (inl refl)))
not_whole false false (Some Whole) other = absurd (other (inl refl))
not_whole false raced (Some Failed) other = refl
not_whole false raced (Some (Short n)) other = refl

pub returns-in-None : goal.returns-in-None
returns-in-None c plan history legal is =
    let past = past_started plan history c.args.self.now c.args.id c.deref.result.now is c.deref.ensures.value c.in-None.ensures.lookup.0 in
    sym (ap ended_whole (not_ended_yet plan history c.args.id legal past))

pub returns-in-EndedWhole : goal.returns-in-EndedWhole
returns-in-EndedWhole c plan history legal is =
    let below = within_started plan history c.args.self.now c.args.id c.deref.result.now is c.deref.ensures.value c.in-Some.ensures.lookup.0 in
    let found = found_there plan history c.args.self.now c.args.id c.deref.result.now c.in-Some.states.now is below
    c.deref.ensures.value c.in-Some.ensures.lookup.1 in
    is_whole (is_judged history c.args.id) (has_raced history c.args.id) (outcome_of history c.args.id)
    (judged_ended plan history c.args.id legal) (subst IsWhole found c.in-EndedWhole.is)

pub returns-in_default : goal.returns-in_default
returns-in_default c plan history legal is =
    let below = within_started plan history c.args.self.now c.args.id c.deref.result.now is c.deref.ensures.value c.in-Some.ensures.lookup.0 in
    let found = found_there plan history c.args.self.now c.args.id c.deref.result.now c.in-Some.states.now is below
    c.deref.ensures.value c.in-Some.ensures.lookup.1 in
    let other = c.in_default in
    not_whole (is_judged history c.args.id) (has_raced history c.args.id) (outcome_of history c.args.id)
    (λ h. elim h [
      | inl ended ↦ other.not-EndedWhole (found ∙ ended)
      | inr later ↦ elim later [ inl raced ↦ other.not-Raced (found ∙ raced) | inr judged ↦ other.not-Judged (found ∙ judged) ]
    ])
