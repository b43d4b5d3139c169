-- Believed: what happened in a run so far: a list of events, the oldest first (fio's manual, "iodepth"; the events are of
-- this project). An I/O's or check's number is its place among those that were started.
use Rattle.std.specs.Prelude.{ℕ, ◌==◌, nat_lt, Bool, true, false, not, ◌&&◌, List, [], ◌∷◌, length, Option, Some, None, filter, filter_map, is_none, if◌then◌else◌}
use Rattle.std.specs.Option.{option_or}
use Rattle.std.specs.List.{list_any, enumerate_from}
use Rattle.std.specs.Ordering.{nat_cmp, ordering_then}
use Rattle.std.specs.declared.cmp.Ordering.{Ordering}
use Rattle.jr_model.specs.declared.blocks.Piece.{Piece}
use Rattle.jr_model.specs.declared.events.Event.{Event}
use Rattle.jr_model.specs.declared.events.Event.TheVariants.{Issue, Probe, Skip, End, Verdict}
use Rattle.jr_model.specs.declared.events.Outcome.{Outcome}
use Rattle.jr_model.specs.declared.events.Outcome.TheVariants.{Whole, Failed, Short}
use Rattle.jr_model.specs.declared.events.IssueKind.{IssueKind}
use Rattle.jr_model.specs.declared.events.IssueKind.TheVariants as issue
pub use Rattle.jr_model.specs.declared.events.Started.{Started}
use Rattle.jr_model.specs.declared.events.WriteId.{WriteId}
use Rattle.jr_model.specs.declared.tickets.TicketKind.{TicketKind}
use Rattle.jr_model.specs.declared.tickets.TicketKind.TheVariants as ticket

-- the kind of ticket for a draw that is issued so
abbrev pub kind_for : IssueKind → TicketKind
kind_for issue.Read = ticket.Read
kind_for issue.Write = ticket.Write
kind_for issue.ReadCheck = ticket.ReadCheck

-- what an event starts
abbrev pub started_by : Event → Option Started
started_by (Issue worker kind write piece) = Some (record { worker = worker; kind = kind_for kind; write = write; piece = piece })
started_by (Probe worker write piece) = Some (record { worker = worker; kind = ticket.Probe; write = write; piece = piece })
started_by (Skip worker write) = None
started_by (End worker io outcome) = None
started_by (Verdict worker io verdict) = None

-- all I/Os and checks that were started, in the order of their numbers
abbrev pub started : List Event → List Started
started history = filter_map started_by history

-- how I/O io ended, where this event is its end
abbrev pub end_of : ℕ → Event → Option Outcome
end_of io (End worker id outcome) = if id == io then Some outcome else None
end_of io (Issue worker kind write piece) = None
end_of io (Probe worker write piece) = None
end_of io (Skip worker write) = None
end_of io (Verdict worker id verdict) = None

-- what f gives of the first item where it gives something
abbrev pub first_given : {X Y : Type 0} → (X → Option Y) → List X → Option Y
first_given f [] = None
first_given f (x ∷ xs) = option_or (f x) (first_given f xs)

-- how I/O io ended, if it has
abbrev pub outcome_of : List Event → ℕ → Option Outcome
outcome_of history io = first_given (end_of io) history

-- I/O io is in flight: it was started and has not ended
abbrev pub flies : List Event → ℕ → Bool
flies history io = nat_lt io (length (started history)) && is_none (outcome_of history io)

-- this one, where it has not ended
abbrev pub if_flying : List Event → ℕ × Started → Option Started
if_flying history numbered = if is_none (outcome_of history numbered.0) then Some numbered.1 else None

-- all that is in flight
abbrev pub in_flight : List Event → List Started
in_flight history = filter_map (if_flying history) (enumerate_from 0 (started history))

-- it is of this clone
abbrev pub is_of_clone : ℕ → Started → Bool
is_of_clone c io = io.write.clone == c

-- what a clone has in flight
abbrev pub in_flight_of : List Event → ℕ → List Started
in_flight_of history c = filter (is_of_clone c) (in_flight history)

-- the event is the verdict on check io
abbrev pub is_verdict_on : ℕ → Event → Bool
is_verdict_on io (Verdict worker id verdict) = id == io
is_verdict_on io (Issue worker kind write piece) = false
is_verdict_on io (Probe worker write piece) = false
is_verdict_on io (Skip worker write) = false
is_verdict_on io (End worker id outcome) = false

-- check io has its verdict
abbrev pub is_judged : List Event → ℕ → Bool
is_judged history io = list_any (is_verdict_on io) history

-- it is the check of a write, which a round asks for
abbrev pub is_probe : TicketKind → Bool
is_probe ticket.Probe = true
is_probe ticket.Read = false
is_probe ticket.Write = false
is_probe ticket.ReadCheck = false

-- it gets a verdict, where it ends whole
abbrev pub is_judged_kind : TicketKind → Bool
is_judged_kind ticket.Probe = true
is_judged_kind ticket.ReadCheck = true
is_judged_kind ticket.Read = false
is_judged_kind ticket.Write = false

abbrev pub is_write : TicketKind → Bool
is_write ticket.Write = true
is_write ticket.Read = false
is_write ticket.Probe = false
is_write ticket.ReadCheck = false

-- the I/O ended with all its bytes
abbrev pub ended_whole : Option Outcome → Bool
ended_whole (Some Whole) = true
ended_whole (Some Failed) = false
ended_whole (Some (Short n)) = false
ended_whole None = false

-- this one, where it gets a verdict, ended whole and has none yet
abbrev pub if_awaiting : List Event → ℕ × Started → Option Started
if_awaiting history numbered =
    if is_judged_kind numbered.1.kind && ended_whole (outcome_of history numbered.0) && not (is_judged history numbered.0)
    then Some numbered.1
    else None

-- the checks and checked reads whose verdicts are still to come
abbrev pub awaiting : List Event → List Started
awaiting history = filter_map (if_awaiting history) (enumerate_from 0 (started history))

-- one write
abbrev pub same_write : WriteId → WriteId → Bool
same_write a b = (a.clone == b.clone) && (a.pass == b.pass) && (a.number == b.number)

-- the order of writes: by clone, then by pass, then by number
abbrev pub write_order : WriteId → WriteId → Ordering
write_order a b =
    ordering_then (nat_cmp a.clone b.clone) (ordering_then (nat_cmp a.pass b.pass) (nat_cmp a.number b.number))

-- one piece
abbrev pub same_piece : Piece → Piece → Bool
same_piece a b = (a.file == b.file) && (a.offset == b.offset) && (a.len == b.len)
