-- What a take hands to a worker that waits for nobody: an open ticket, and never a wait.
use Rattle.std.proofs.Common.{◌≡◌, List, length, Bool, true, false, sym, ◌∙◌, ap, subst, append-nil}
use Rattle.std.specs.Prelude.{Option, Some, None}
use Rattle.jr_model.specs.Races.{has_raced}
use Rattle.jr_model.specs.declared.events.Event.{Event}
use Rattle.jr_model.specs.declared.events.Started.{Started}
use Rattle.jr_model.specs.declared.tickets.Ticket.{Ticket}
use Rattle.jr_model.specs.declared.tickets.TicketKind.{TicketKind}
use Rattle.jr_model.specs.declared.tickets.TicketKind.TheVariants as ticket
use Rattle.jr_model.specs.History.{started, outcome_of, is_judged}
use Rattle.jr_model.specs.Legal.{is_complete}
use Rattle.jr_model.specs.Plan.{Plan}
use Rattle.jr_model.specs.Replies.{EngineState}
use Rattle.jr_model.specs.Tickets.{ticket_fits}
use Rattle.jr_header.specs.Served.{ExpectsOwn}
use Rattle.jr_desk_tickets.specs.Kept.{IsOwn}
use Rattle.jr_desk_tickets.specs.Tickets.{ticket_of}
use Rattle.jr_desk_state.specs.declared.takes.Take.TheVariants as take
use Rattle.jr_desk.specs.DeskState.{DeskState}
use Rattle.jr_desk_state.specs.Takes.{IsChosen, IsTaken, WaitsRightly, handing, answer_with, take_answer}
use Rattle.jr_desk_state.proofs.Keeping.{chosen_started}
use Rattle.jr_crew.specs.Turns.{AreSettled, IsBetweenTurns, IsCarriedOut, IsOpen, IsTurn}
use Rattle.jr_crew.proofs.Chosen.{chosen_unended, chosen_unjudged, chosen_own}
use Rattle.jr_crew.proofs.Unraced.{chosen_unraced}
use Rattle.jr_crew.proofs.Settling.{settled_still, settled_rests, settled_judged}

no_wait : (kind : TicketKind) (t : Ticket) → take.Wait ≡ handing kind t → ⊥
no_wait ticket.Read t h = cc
no_wait ticket.Write t h = cc
no_wait ticket.Probe t h = cc
no_wait ticket.ReadCheck t h = cc

-- where all is settled, no take says to wait
pub never_waits : (plan : Plan) (before after : List Event) → AreSettled before → IsTaken plan 0 before after take.Wait → WaitsRightly plan 0 after take.Wait → ⊥
never_waits plan before after settled taken waits = by taken.0 taken.1 taken.2
  where
    by : (io : Option Started) → IsChosen plan 0 before after io → take.Wait ≡ take_answer plan after (length (started before)) io → ⊥
    by (Some s) chosen is = no_wait s.kind (ticket_of plan (length (started before), s)) is
    by None chosen is =
        let all = settled_still before after chosen.0 settled chosen.1 (chosen_started plan 0 before after None chosen ∙ append-nil (started before)) in
        waits.1 (settled_rests after all, settled_judged after all)

io_of : (kind : TicketKind) (t next : Ticket) → take.Io t ≡ handing kind next → t ≡ next
io_of ticket.Read t next h = cc
io_of ticket.Write t next h = cc
io_of ticket.Probe t next h = cc
io_of ticket.ReadCheck t next h = cc

probe_of : (kind : TicketKind) (t next : Ticket) → take.Probe t ≡ handing kind next → t ≡ next
probe_of ticket.Read t next h = cc
probe_of ticket.Write t next h = cc
probe_of ticket.Probe t next h = cc
probe_of ticket.ReadCheck t next h = cc

no_io : (complete : Bool) (t : Ticket) → take.Io t ≡ answer_with complete None → ⊥
no_io true t h = cc
no_io false t h = cc

no_probe : (complete : Bool) (t : Ticket) → take.Probe t ≡ answer_with complete None → ⊥
no_probe true t h = cc
no_probe false t h = cc

-- the ticket is that of what the take started
abbrev pub IsHanded : Plan → List Event → List Event → Ticket → Type 0
IsHanded plan before after t =
    (io : Started) × IsChosen plan 0 before after (Some io) × (t ≡ ticket_of plan (length (started before), io))

pub handed_io : (plan : Plan) (before after : List Event) (t : Ticket) → IsTaken plan 0 before after (take.Io t) → IsHanded plan before after t
handed_io plan before after t taken = by taken.0 taken.1 taken.2
  where
    by : (io : Option Started) → IsChosen plan 0 before after io → take.Io t ≡ take_answer plan after (length (started before)) io → IsHanded plan before after t
    by (Some s) chosen is = (s, chosen, io_of s.kind t (ticket_of plan (length (started before), s)) is)
    by None chosen is = absurd (no_io (is_complete plan after) t is)

pub handed_probe : (plan : Plan) (before after : List Event) (t : Ticket) → IsTaken plan 0 before after (take.Probe t) → IsHanded plan before after t
handed_probe plan before after t taken = by taken.0 taken.1 taken.2
  where
    by : (io : Option Started) → IsChosen plan 0 before after io → take.Probe t ≡ take_answer plan after (length (started before)) io → IsHanded plan before after t
    by (Some s) chosen is = (s, chosen, probe_of s.kind t (ticket_of plan (length (started before), s)) is)
    by None chosen is = absurd (no_probe (is_complete plan after) t is)

-- a ticket that was handed out and carried out makes a turn
pub turn_of : (plan : Plan) (before begun after : List Event) (t : Ticket) (old new : EngineState) → IsHanded plan before begun t → IsCarriedOut t begun after old new → IsTurn plan before after old new
turn_of plan before begun after t old new handed carried = record {
  io = handed.0;
  begun = begun;
  chosen = handed.1;
  carried = subst (λ (x : Ticket). IsCarriedOut x begun after old new) handed.2 carried;
}

-- and it is open
pub handed_open : (desk after : DeskState) (t : Ticket) → IsBetweenTurns desk → IsHanded desk.plan desk.history after.history t → after.plan ≡ desk.plan → after.is_stopped ≡ desk.is_stopped → ticket_fits t ≡ true → ExpectsOwn t → IsOpen after t
handed_open desk after t between handed plan stop fits expects =
    let io = handed.0 in
    let chosen = handed.1 in
    let is = handed.2 in record {
      own = subst (λ (p : Plan). IsOwn p after.history t) (sym plan)
          (subst (λ (x : Ticket). IsOwn desk.plan after.history x) (sym is)
          (chosen_own desk.plan 0 desk.history after.history io between.planned between.legal chosen));
      fits = fits;
      expects = expects;
      unended =
          ap (λ (x : Ticket). outcome_of after.history x.id) is
          ∙ chosen_unended desk.plan 0 desk.history after.history io between.planned between.legal chosen;
      unjudged =
          ap (λ (x : Ticket). is_judged after.history x.id) is
          ∙ chosen_unjudged desk.plan 0 desk.history after.history io between.planned between.legal chosen;
      unraced =
          ap (λ (x : Ticket). has_raced after.history x.id) is
          ∙ chosen_unraced desk.plan 0 desk.history after.history io chosen between.settled;
      going = stop ∙ between.going;
    }
