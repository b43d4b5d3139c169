-- A check that has just ended whole is still the desk's own, and has no verdict.
use Rattle.std.proofs.Common.{rules, ◌≡◌, List, [], ◌∷◌, ◌++◌, true, false, inr, refl, sym, ◌∙◌, ap, subst}
use Rattle.std.specs.Prelude.{◌⊎◌, Option, Some, None, Result, Ok, Err, IfOk, IfErr, OnErr, is_some, slice_get}
use Rattle.jr_model.specs.declared.events.Event.TheVariants.{End, Verdict}
use Rattle.jr_model.specs.declared.events.Outcome.{Outcome}
use Rattle.jr_model.specs.declared.events.Outcome.TheVariants.{Whole, Failed, Short}
use Rattle.jr_model.specs.declared.steps.DeskFault.{DeskFault}
use Rattle.jr_model.specs.declared.steps.DeskFault.TheVariants.{Memory}
use Rattle.jr_model.specs.Machine.{said_of}
use Rattle.jr_model.specs.Races.{has_raced}
use Rattle.jr_model.specs.declared.tickets.Ticket.{Ticket}
use Rattle.jr_model.specs.declared.tickets.TicketKind.{TicketKind}
use Rattle.jr_model.specs.declared.tickets.TicketKind.TheVariants as ticket
use Rattle.jr_model.specs.History.{outcome_of, is_judged, ended_whole}
use Rattle.jr_model.specs.Legal.{is_legal}
use Rattle.jr_model.proofs.HistoryLemmas.{outcome_of-end}
use Rattle.jr_engines.specs.Answers.{AnswerParts}
use Rattle.jr_header.specs.Served.{answer_verdict, is_to_judge, is_whole_check}
use Rattle.jr_laws_steps.proofs.Grown.{is_judged-stays}
use Rattle.jr_laws_steps.proofs.JudgedEnded.{flying_unjudged}
use Rattle.jr_desk_tickets.specs.Kept.{IsOwn}
use Rattle.jr_desk_tickets.proofs.HandingMoves.{tickets_stay}
use Rattle.jr_desk.specs.DeskState.{DeskState}
use Rattle.jr_desk.specs.Refusals.{end_fault}
use Rattle.jr_desk.proofs.desk.Desk.end_judged.Goals as goal

none_of : (o : Option Outcome) → is_some o ≡ false → o ≡ None
none_of None h = refl
none_of (Some o) h = cc

whole_of : (kind : TicketKind) (how : Outcome) → is_whole_check kind how ≡ true → how ≡ Whole
whole_of kind Whole h = refl
whole_of ticket.Probe Failed h = cc
whole_of ticket.ReadCheck Failed h = cc
whole_of ticket.Read Failed h = cc
whole_of ticket.Write Failed h = cc
whole_of ticket.Probe (Short n) h = cc
whole_of ticket.ReadCheck (Short n) h = cc
whole_of ticket.Read (Short n) h = cc
whole_of ticket.Write (Short n) h = cc

-- the desk has taken in the end of this answer
abbrev HasEnded : DeskState → DeskState → AnswerParts → Type 0
HasEnded old new served = new ≡ record old { history = old.history ++ End served.ticket.worker served.ticket.id served.outcome ∷ [] }

still_own : (old new : DeskState) (served : AnswerParts) → HasEnded old new served → IsOwn old.plan old.history served.ticket → IsOwn new.plan new.history served.ticket
still_own old new served is own =
    subst (λ (d : DeskState). IsOwn d.plan d.history served.ticket) (sym is)
    (ap (λ (ts : List Ticket). slice_get ts served.ticket.id)
    (tickets_stay old.plan old.history (End served.ticket.worker served.ticket.id served.outcome) refl)
    ∙ own)

has_ended_whole : (old new : DeskState) (served : AnswerParts) → HasEnded old new served → is_some (outcome_of old.history served.ticket.id) ≡ false → is_to_judge served ≡ true → ended_whole (outcome_of new.history served.ticket.id) ≡ true
has_ended_whole old new served is flying judged =
    ap (λ (d : DeskState). ended_whole (outcome_of d.history served.ticket.id)) is
    ∙ ap ended_whole (outcome_of-end old.history served.ticket.worker served.ticket.id served.outcome (none_of (outcome_of old.history served.ticket.id) flying))
    ∙ ap (λ (o : Outcome). ended_whole (Some o)) (whole_of served.ticket.kind served.outcome judged)

still_unjudged : (old new : DeskState) (served : AnswerParts) → HasEnded old new served → is_some (outcome_of old.history served.ticket.id) ≡ false → is_legal old.plan old.history ≡ true → is_judged new.history served.ticket.id ≡ false
still_unjudged old new served is flying legal =
    ap (λ (d : DeskState). is_judged d.history served.ticket.id) is
    ∙ is_judged-stays old.history (End served.ticket.worker served.ticket.id served.outcome) served.ticket.id refl
    ∙ flying_unjudged old.plan old.history served.ticket.id legal (none_of (outcome_of old.history served.ticket.id) flying)

pub judge_own-requires-clause-own : goal.judge_own-requires-clause-own
judge_own-requires-clause-own c =
    subst (λ (a : AnswerParts). IsOwn c.end_own.new.self.plan c.end_own.new.self.history a.ticket) c.served.ensures.value
    (still_own c.args.self.now c.end_own.new.self c.served.result.now c.in_ok-end_own.ensures.ok c.in_ok-end_own.ensures.own)

pub judge_own-requires-clause-whole : goal.judge_own-requires-clause-whole
judge_own-requires-clause-whole c =
    subst (λ (a : AnswerParts). ended_whole (outcome_of c.end_own.new.self.history a.ticket.id) ≡ true) c.served.ensures.value
    (has_ended_whole c.args.self.now c.end_own.new.self c.served.result.now c.in_ok-end_own.ensures.ok c.in_ok-end_own.ensures.flying
    (subst (λ (a : AnswerParts). is_to_judge a ≡ true) (sym c.served.ensures.value) c.served.ensures.to_judge))

pub judge_own-requires-clause-unjudged : goal.judge_own-requires-clause-unjudged
judge_own-requires-clause-unjudged c =
    subst (λ (a : AnswerParts). is_judged c.end_own.new.self.history a.ticket.id ≡ false) c.served.ensures.value
    (still_unjudged c.args.self.now c.end_own.new.self c.served.result.now c.in_ok-end_own.ensures.ok c.in_ok-end_own.ensures.flying
    (subst (λ (d : DeskState). is_legal d.plan d.history ≡ true) c.self.view_is c.self.invariant.legal))

pub returns-in_err-end_own-clause-taken_in : goal.returns-in_err-end_own-clause-taken_in
returns-in_err-end_own-clause-taken_in c own none =
    let said : c.in_err-end_own.field-0.0 ≡ Memory = c.in_err-end_own.ensures.taken_in
    (subst (λ (a : AnswerParts). IsOwn c.args.self.now.plan c.args.self.now.history a.ticket) (sym c.served.ensures.value) own)
    (subst (λ (a : AnswerParts). end_fault c.args.self.now a.ticket.id true ≡ None) (sym c.served.ensures.value) none) in
    search rules

-- the desk with the end alone
abbrev with_end : DeskState → AnswerParts → DeskState
with_end desk served = record desk { history = desk.history ++ End served.ticket.worker served.ticket.id served.outcome ∷ [] }

if_both : {T E : Type 0} (r : Result T E) (P Q : T → Type 0) → IfOk r P → IfOk r Q → IfOk r (λ x. P x × Q x)
if_both (Ok x) P Q p q = (p, q)
if_both (Err e) P Q p q = tt

pub returns-clause-ok : goal.returns-clause-ok
returns-clause-ok c =
    let desk = c.args.self.now in
    let check = c.args.ruling.now.ticket in
    let ended : c.end_own.new.self ≡ with_end desk c.args.ruling.now = c.in_ok-end_own.ensures.ok ∙ ap (with_end desk) c.served.ensures.value in
    subst (λ (d : DeskState).
    IfOk c.judge_own.result (λ said. (c.judge_own.new.self ≡ record d { history = d.history ++ Verdict c.args.by check.id said ∷ [] })
    × (said ≡ said_of (has_raced d.history check.id) (answer_verdict c.args.ruling.now)))) ended
    (if_both c.judge_own.result _ _ c.judge_own.ensures.ok c.judge_own.ensures.said)

pub returns-clause-says : goal.returns-clause-says
returns-clause-says c = c.judge_own.ensures.says

-- what is wanting is memory, and the end alone was taken in
only_end : {T : Type 0} (r : Result T DeskFault) (A P Q : Type 0) → IfErr r (λ fault. fault ≡ Memory) → OnErr r P → (P → Q)
    → IfErr r (λ fault. A ⊎ ((fault ≡ Memory) × Q))
only_end (Ok x) A P Q memory as_it_was ended = tt
only_end (Err fault) A P Q memory as_it_was ended = inr (memory, ended as_it_was)

pub returns-clause-kept : goal.returns-clause-kept
returns-clause-kept c =
    let desk = c.args.self.now in
    let ended : c.end_own.new.self ≡ with_end desk c.args.ruling.now = c.in_ok-end_own.ensures.ok ∙ ap (with_end desk) c.served.ensures.value in
    only_end c.judge_own.result _ _ _ c.judge_own.ensures.memory c.judge_own.ensures.err (λ same. same ∙ ended)
