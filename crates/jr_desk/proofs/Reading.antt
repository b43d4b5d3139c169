-- What a player keeps of its reads goes on agreeing with its desk's history.
use Rattle.std.proofs.Common.{◌≡◌, ℕ, ◌<◌, List, [], ◌∷◌, ◌++◌, length, Bool, true, false, cond, refl, sym, ◌∙◌, ap, subst, inl, inr}
use Rattle.std.specs.Prelude.{Option, Some, None, slice_get, ◌==◌, find, reverse}
use Rattle.std.specs.Option.{option_or}
use Rattle.std.proofs.lemmas.Bool.{cases_Bool, cond_both, eqb-true, false≢true}
use Rattle.std.proofs.lemmas.List.{reverse-append}
use Rattle.std.proofs.lemmas.Option.{same_Some}
use Rattle.jr_model.specs.declared.events.Event.{Event}
use Rattle.jr_model.specs.declared.events.Event.TheVariants.{End}
use Rattle.jr_model.specs.declared.events.Outcome.{Outcome}
use Rattle.jr_model.specs.declared.events.Outcome.TheVariants.{Whole, Failed, Short}
use Rattle.jr_model.specs.declared.events.Started.{Started}
use Rattle.jr_model.specs.declared.tickets.Ticket.{Ticket}
use Rattle.jr_model.specs.declared.tickets.TicketKind.{TicketKind}
use Rattle.jr_model.specs.declared.tickets.TicketKind.TheVariants as ticket
use Rattle.jr_model.specs.History.{first_given, started, end_of, outcome_of, is_judged_kind, ended_whole}
use Rattle.jr_model.specs.Legal.{is_legal}
use Rattle.jr_model.specs.Plan.{Plan}
use Rattle.jr_model.proofs.SerialLaws.{first_given-append, whole_some}
use Rattle.jr_model.proofs.HistoryLemmas.{ends_were_started, outcome_of-end}
use Rattle.jr_model.proofs.OptionLemmas.{or_none}
use Rattle.jr_engines.specs.Answers.{AnswerParts}
use Rattle.jr_header.specs.Served.{is_to_judge, is_whole_check}
use Rattle.jr_laws_steps.proofs.StartedLemmas.{started-other, started-append, started_stays, got_within}
use Rattle.jr_desk.specs.Plays.{KeepsReads, kept_by, last_read, is_for, IsJudgeable}
use Rattle.jr_desk_tickets.specs.Kept.{IsOwn}
use Rattle.jr_desk_tickets.specs.Tickets.{ticket_of}
use Rattle.jr_desk_tickets.proofs.OwnTickets.{own_started, ticket_started}

-- tickets stay the desk's own

own_stays : (plan : Plan) (history events : List Event) (t : Ticket) → IsOwn plan history t → IsOwn plan (history ++ events) t
own_stays plan history events t own =
    let io = own_started plan history t own in
    ticket_started plan (history ++ events) t.id io.0 (started_stays history events t.id io.0 io.1) ∙ ap Some io.2

outcome_stays : (history events : List Event) (id : ℕ) (o : Outcome) → outcome_of history id ≡ Some o → outcome_of (history ++ events) id ≡ Some o
outcome_stays history events id o ended =
    first_given-append (end_of id) history events ∙ ap (λ (p : Option Outcome). option_or p (first_given (end_of id) events)) ended

-- a check that ended whole had done so before events that don't end it
whole_before : (plan : Plan) (history events : List Event) (id : ℕ) (io : Started) → is_legal plan history ≡ true → first_given (end_of id) events ≡ None → IsJudgeable (history ++ events) id io → IsJudgeable history id io
whole_before plan history events id io legal none check =
    let same : outcome_of (history ++ events) id ≡ outcome_of history id =
    first_given-append (end_of id) history events ∙ ap (option_or (outcome_of history id)) none ∙ or_none (outcome_of history id) in
    let whole : ended_whole (outcome_of history id) ≡ true = ap ended_whole (sym same) ∙ check.2 in
    let below : id < length (started history) = ends_were_started plan history legal id Whole (whole_some (outcome_of history id) whole) in
    let there : slice_get (started history ++ started events) id ≡ Some io =
    ap (λ (ios : List Started). slice_get ios id) (sym (started-append history events)) ∙ check.0 in
    (got_within (started history) (started events) id io below there, check.1, whole)

-- nothing is read where nothing ends
pub keeps_on : (plan : Plan) (history events : List Event) (reads : List AnswerParts) → is_legal plan history ≡ true → ((id : ℕ) → first_given (end_of id) events ≡ None) → KeepsReads plan history reads → KeepsReads plan (history ++ events) reads
keeps_on plan history events reads legal none keeps = record {
  ended = λ io answer found.
      let before = keeps.ended io answer found in
      (own_stays plan history events answer.ticket before.0, outcome_stays history events answer.ticket.id answer.outcome before.1);
  checks = λ io s check. keeps.checks io s (whole_before plan history events io s legal (none io) check);
}

-- one more is kept

abbrev with_last : List AnswerParts → AnswerParts → ℕ → Option AnswerParts
with_last reads answer io = cond (answer.ticket.id == io) (Some answer) (last_read reads io)

last_read-more : (reads : List AnswerParts) (answer : AnswerParts) (io : ℕ) → last_read (reads ++ answer ∷ []) io ≡ with_last reads answer io
last_read-more reads answer io = ap (find (is_for io)) (reverse-append reads (answer ∷ []))

found_for : (xs : List AnswerParts) (io : ℕ) (answer : AnswerParts) → find (is_for io) xs ≡ Some answer → (answer.ticket.id == io) ≡ true
found_for [] io answer found = cc
found_for (x ∷ xs) io answer found =
    cond_both (x.ticket.id == io) (Some x) (find (is_for io) xs) (λ (o : Option AnswerParts). o ≡ Some answer → (answer.ticket.id == io) ≡ true)
    (λ is same. subst (λ (a : AnswerParts). (a.ticket.id == io) ≡ true) (same_Some x answer same) is)
    (λ other rest. found_for xs io answer rest) found

-- what was kept for an I/O has its number
pub last_read_for : (reads : List AnswerParts) (io : ℕ) (answer : AnswerParts) → last_read reads io ≡ Some answer → answer.ticket.id ≡ io
last_read_for reads io answer found = eqb-true answer.ticket.id io (found_for (reverse reads) io answer found)

no_other_end : (worker id io : ℕ) (outcome : Outcome) → (id == io) ≡ false → first_given (end_of io) (End worker id outcome ∷ []) ≡ None
no_other_end worker id io outcome other = ap (λ (b : Bool). option_or (cond b (Some outcome) None) None) other

to_judge : (kind : TicketKind) (outcome : Outcome) → is_judged_kind kind ≡ true → ended_whole (Some outcome) ≡ true → is_whole_check kind outcome ≡ true
to_judge ticket.Probe Whole judged whole = refl
to_judge ticket.Probe Failed judged whole = cc
to_judge ticket.Probe (Short n) judged whole = cc
to_judge ticket.ReadCheck Whole judged whole = refl
to_judge ticket.ReadCheck Failed judged whole = cc
to_judge ticket.ReadCheck (Short n) judged whole = cc
to_judge ticket.Read outcome judged whole = cc
to_judge ticket.Write outcome judged whole = cc

-- an I/O ends with this answer
module _ (plan : Plan) (history : List Event) (reads : List AnswerParts) (worker id : ℕ) (io : Started) (answer : AnswerParts) (legal : is_legal plan history ≡ true) (at : slice_get (started history) id ≡ Some io) (unended : outcome_of history id ≡ None) (is : answer.ticket ≡ ticket_of plan (id, io)) (keeps : KeepsReads plan history reads) where
  abbrev after : List Event
  after = history ++ End worker id answer.outcome ∷ []

  same_id : answer.ticket.id ≡ id
  same_id = ap (λ (t : Ticket). t.id) is

  -- what was kept before is right still
  old_ended : (i : ℕ) (a : AnswerParts) → last_read reads i ≡ Some a → IsOwn plan after a.ticket × (outcome_of after a.ticket.id ≡ Some a.outcome)
  old_ended i a found =
      let before = keeps.ended i a found in
      (own_stays plan history (End worker id answer.outcome ∷ []) a.ticket before.0, outcome_stays history (End worker id answer.outcome ∷ []) a.ticket.id a.outcome before.1)

  -- and so is the answer
  new_ended : IsOwn plan after answer.ticket × (outcome_of after answer.ticket.id ≡ Some answer.outcome)
  new_ended = (
    subst (λ (t : Ticket). IsOwn plan after t) (sym is)
        (own_stays plan history (End worker id answer.outcome ∷ []) (ticket_of plan (id, io)) (ticket_started plan history id io at)),
    subst (λ (i : ℕ). outcome_of after i ≡ Some answer.outcome) (sym same_id) (outcome_of-end history worker id answer.outcome unended),
  )

  -- a check of another number was there before
  old_check : (i : ℕ) (s : Started) → (id == i) ≡ false → IsJudgeable after i s → (a : AnswerParts) × (last_read reads i ≡ Some a) × (is_to_judge a ≡ true)
  old_check i s other check =
      keeps.checks i s (whole_before plan history (End worker id answer.outcome ∷ []) i s legal (no_other_end worker id i answer.outcome other) check)

  -- the check that ended is this one
  same_check : (s : Started) → IsJudgeable after id s → (is_judged_kind answer.ticket.kind ≡ true) × (ended_whole (Some answer.outcome) ≡ true)
  same_check s check =
      let there : Some s ≡ Some io =
      sym check.0 ∙ ap (λ (ios : List Started). slice_get ios id) (started-other history (End worker id answer.outcome) refl) ∙ at in (
        ap (λ (t : Ticket). is_judged_kind t.kind) is ∙ ap (λ (x : Started). is_judged_kind x.kind) (sym (same_Some s io there)) ∙ check.1,
        ap ended_whole (sym (outcome_of-end history worker id answer.outcome unended)) ∙ check.2,
      )

  kept_more : KeepsReads plan after (reads ++ answer ∷ [])
  kept_more = record {
    ended = λ i a found.
        cond_both (answer.ticket.id == i) (Some answer) (last_read reads i)
        (λ (o : Option AnswerParts). o ≡ Some a → IsOwn plan after a.ticket × (outcome_of after a.ticket.id ≡ Some a.outcome))
        (λ here same. subst (λ (x : AnswerParts). IsOwn plan after x.ticket × (outcome_of after x.ticket.id ≡ Some x.outcome)) (same_Some answer a same) new_ended)
        (λ other before. old_ended i a before)
        (sym (last_read-more reads answer i) ∙ found);
    checks = λ i s check.
        elim (cases_Bool (id == i)) [
          | inl here ↦
              let same = same_check s (subst (λ (n : ℕ). IsJudgeable after n s) (sym (eqb-true id i here)) check) in (
                answer,
                last_read-more reads answer i ∙ ap (λ (b : Bool). cond b (Some answer) (last_read reads i)) (ap (λ (n : ℕ). n == i) same_id ∙ here),
                to_judge answer.ticket.kind answer.outcome same.0 same.1,
              )
          | inr other ↦
              let before = old_check i s other check in (
                before.0,
                last_read-more reads answer i ∙ ap (λ (b : Bool). cond b (Some answer) (last_read reads i)) (ap (λ (n : ℕ). n == i) same_id ∙ other) ∙ before.1,
                before.2,
              )
        ];
  }

  kept_write : answer.ticket.kind ≡ ticket.Write → KeepsReads plan after reads
  kept_write write = record {
    ended = old_ended;
    checks = λ i s check.
        elim (cases_Bool (id == i)) [
          | inl here ↦
              let same = same_check s (subst (λ (n : ℕ). IsJudgeable after n s) (sym (eqb-true id i here)) check) in
              absurd (false≢true (sym (ap is_judged_kind write) ∙ same.0))
          | inr other ↦ old_check i s other check
        ];
  }

  by_kind : (kind : TicketKind) → answer.ticket.kind ≡ kind → KeepsReads plan after (kept_by kind reads answer)
  by_kind ticket.Write write = kept_write write
  by_kind ticket.Read read = kept_more
  by_kind ticket.Probe probe = kept_more
  by_kind ticket.ReadCheck read = kept_more

  -- what is kept then is right
  pub keeps_ended : KeepsReads plan after (kept_by answer.ticket.kind reads answer)
  keeps_ended = by_kind answer.ticket.kind refl
