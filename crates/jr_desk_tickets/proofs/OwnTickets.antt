-- The tickets of a history, and the I/Os that they are of.
use Rattle.std.proofs.Common.{◌≡◌, ℕ, ◌+◌, List, length, map, ◌∙◌, ap, arith}
use Rattle.std.specs.Prelude.{Option, Some, slice_get}
use Rattle.std.specs.List.{enumerate_from}
use Rattle.jr_model.specs.declared.events.Event.{Event}
use Rattle.jr_model.specs.declared.events.Started.{Started}
use Rattle.jr_model.specs.declared.tickets.Ticket.{Ticket}
use Rattle.jr_model.specs.History.{started}
use Rattle.jr_model.specs.Plan.{Plan}
use Rattle.jr_desk_tickets.specs.Kept.{IsOwn, tickets_of}
use Rattle.jr_desk_tickets.specs.Tickets.{ticket_of}
use Rattle.jr_desk_tickets.proofs.HandingLists.{got_numbered, length_numbered, numbered_at}

-- a ticket is that of the I/O under its number
pub got_ticket : (plan : Plan) (n : ℕ) (ios : List Started) (k : ℕ) (t : Ticket)
    → slice_get (map (ticket_of plan) (enumerate_from n ios)) k ≡ Some t
    → (io : Started) × (slice_get ios k ≡ Some io) × (ticket_of plan (n + k, io) ≡ t)
got_ticket plan n ios k t at = got_numbered (ticket_of plan) n ios k t at

-- a ticket of the desk's own is that of an I/O that was started
pub own_started : (plan : Plan) (history : List Event) (t : Ticket) → IsOwn plan history t
    → (io : Started) × (slice_get (started history) t.id ≡ Some io) × (ticket_of plan (t.id, io) ≡ t)
own_started plan history t own =
    let got = got_ticket plan 0 (started history) t.id t own in
    let same : t.id ≡ 0 + t.id = omega arith in
    (got.0, got.1, ap (λ (i : ℕ). ticket_of plan (i, got.0)) same ∙ got.2)

-- each has one
pub tickets_count : (plan : Plan) (history : List Event) → length (tickets_of plan history) ≡ length (started history)
tickets_count plan history = length_numbered (ticket_of plan) 0 (started history)

-- an I/O that was started has its ticket
pub ticket_started : (plan : Plan) (history : List Event) (id : ℕ) (io : Started) → slice_get (started history) id ≡ Some io
    → slice_get (tickets_of plan history) id ≡ Some (ticket_of plan (id, io))
ticket_started plan history id io at =
    let same : 0 + id ≡ id = omega arith in
    numbered_at (ticket_of plan) 0 (started history) id io at ∙ ap {B = Option Ticket} (λ (i : ℕ). Some (ticket_of plan (i, io))) same
