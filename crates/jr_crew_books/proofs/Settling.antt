-- Where each I/O and check has come to its end, nothing is in flight and no verdict is missing.
use Rattle.std.proofs.Common.{◌≡◌, ℕ, ◌+◌, List, Bool, true, false, cond, ◌&&◌, not, refl, ◌∙◌, ap, subst, arith}
use Rattle.std.specs.Prelude.{Option, Some, None, slice_get, is_none, is_some}
use Rattle.std.specs.Option.{option_map}
use Rattle.std.proofs.lemmas.Bool.{and_parts}
use Rattle.std.proofs.lemmas.Option.{same_Some}
use Rattle.jr_model.specs.declared.events.Event.{Event}
use Rattle.jr_model.specs.declared.events.Outcome.{Outcome}
use Rattle.jr_model.specs.declared.events.Started.{Started}
use Rattle.jr_model.specs.History.{started, outcome_of, if_flying, if_awaiting, is_judged, is_judged_kind, ended_whole}
use Rattle.jr_model.proofs.PlaceLemmas.{keeps_none}
use Rattle.jr_model.specs.declared.tickets.Ticket.{Ticket}
use Rattle.jr_model.specs.declared.tickets.TicketKind.{TicketKind}
use Rattle.jr_model.specs.Plan.{Plan}
use Rattle.jr_desk_tickets.specs.Kept.{tickets_of}
use Rattle.jr_desk_tickets.proofs.OwnTickets.{ticket_started}
use Rattle.jr_crew_books.specs.Finished.{AllFinished, is_finished}

flown_by : (o : Option Outcome) (io : Started) → is_some o ≡ true → cond (is_none o) (Some io) None ≡ None
flown_by (Some outcome) io h = refl
flown_by None io h = cc

judged_by : (b : Bool) (io : Started) → not b ≡ true → cond b (Some io) None ≡ None
judged_by true io h = cc
judged_by false io h = refl

module _ (history : List Event) (id : ℕ) (io : Started) (settled : is_finished history id io ≡ true) where
  abbrev waits : Bool
  waits = is_judged_kind io.kind && ended_whole (outcome_of history id) && not (is_judged history id)

  flown : if_flying history (id, io) ≡ None
  flown = flown_by (outcome_of history id) io (and_parts (is_some (outcome_of history id)) (not waits) settled).0

  judged : if_awaiting history (id, io) ≡ None
  judged = judged_by waits io (and_parts (is_some (outcome_of history id)) (not waits) settled).1

pub all_settled : (history : List Event) → ((id : ℕ) (io : Started) → slice_get (started history) id ≡ Some io → is_finished history id io ≡ true) → AllFinished history
all_settled history each = record {
  flown = keeps_none (if_flying history) 0 (started history)
      (λ id io at. let same : id ≡ 0 + id = omega arith in subst (λ (n : ℕ). if_flying history (n, io) ≡ None) same (flown history id io (each id io at)));
  judged = keeps_none (if_awaiting history) 0 (started history)
      (λ id io at. let same : id ≡ 0 + id = omega arith in subst (λ (n : ℕ). if_awaiting history (n, io) ≡ None) same (judged history id io (each id io at)));
}

-- an I/O has the kind that it was started with
module _ (plan : Plan) (history : List Event) (id : ℕ) (io : Started) (at : slice_get (started history) id ≡ Some io) where
  pub kind_started : option_map (λ ticket. ticket.kind) (slice_get (tickets_of plan history) id) ≡ Some io.kind
  kind_started = ap (option_map (λ (t : Ticket). t.kind)) (ticket_started plan history id io at)

  pub kind_of_ticket : (kind : TicketKind) → Some kind ≡ option_map (λ ticket. ticket.kind) (slice_get (tickets_of plan history) id) → is_judged_kind kind ≡ is_judged_kind io.kind
  kind_of_ticket kind is = ap is_judged_kind (same_Some kind io.kind (is ∙ kind_started))

  pub has_its_ticket : {A : Type 0} → None ≡ option_map (λ ticket. ticket.kind) (slice_get (tickets_of plan history) id) → A
  has_its_ticket none =
      let there : None ≡ Some io.kind = none ∙ kind_started in
      cc
