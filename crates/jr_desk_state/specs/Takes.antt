-- Believed: what a take leaves and answers (of this project).
use Rattle.std.specs.Prelude.{◌≡◌, ℕ, Bool, true, false, List, [], ◌∷◌, ◌++◌, length, Option, Some, None, if◌then◌else◌}
use Rattle.jr_model.specs.declared.events.Event.{Event}
use Rattle.jr_model.specs.declared.events.Started.{Started}
use Rattle.jr_model.specs.declared.tickets.Ticket.{Ticket}
use Rattle.jr_model.specs.declared.tickets.TicketKind.{TicketKind}
use Rattle.jr_model.specs.declared.tickets.TicketKind.TheVariants as ticket
use Rattle.jr_model.specs.Choice.{choice}
use Rattle.jr_model.specs.History.{started, started_by, in_flight, awaiting}
use Rattle.jr_model.specs.Legal.{is_complete}
use Rattle.jr_model.specs.Machine.{Appends}
use Rattle.jr_model.specs.Plan.{Plan}
use Rattle.jr_model.specs.Tickets.{ticket_fits}
use Rattle.jr_header.specs.Served.{ExpectsOwn}
use Rattle.jr_desk_tickets.specs.Tickets.{ticket_of}
use Rattle.jr_desk_state.specs.declared.takes.Take.{Take}
use Rattle.jr_desk_state.specs.declared.takes.Take.TheVariants as take

-- what these events start last: only the last of those that a take appends can start anything
abbrev pub last_started : List Event → Option Started
last_started [] = None
last_started (event ∷ []) = started_by event
last_started (event ∷ next ∷ events) = last_started (next ∷ events)

-- the answer that hands out a ticket
abbrev pub handing : TicketKind → Ticket → Take
handing ticket.Read t = take.Io t
handing ticket.Write t = take.Io t
handing ticket.ReadCheck t = take.Io t
handing ticket.Probe t = take.Probe t

-- the answer where this ticket is handed out, if any is, and the run is complete or not
abbrev pub answer_with : Bool → Option Ticket → Take
answer_with complete None = if complete then take.Finished else take.Wait
answer_with complete (Some t) = handing t.kind t

-- the ticket of what was started under this number, if anything was
abbrev pub ticket_for : Plan → ℕ → Option Started → Option Ticket
ticket_for plan id None = None
ticket_for plan id (Some io) = Some (ticket_of plan (id, io))

-- the answer to a take that left this history and started this under this number
abbrev pub take_answer : Plan → List Event → ℕ → Option Started → Take
take_answer plan history id io = answer_with (is_complete plan history) (ticket_for plan id io)

-- a take by this worker may leave this history, where it starts this: choices, of which all but the last are skips, were
-- appended
abbrev pub IsChosen : Plan → ℕ → List Event → List Event → Option Started → Type 0
IsChosen plan worker before history io =
    (events : List Event) × (history ≡ before ++ events) × Appends plan worker before events × (io ≡ last_started events)

-- a take by this worker may leave this history and answer this
abbrev pub IsTaken : Plan → ℕ → List Event → List Event → Take → Type 0
IsTaken plan worker before history answer =
    (io : Option Started) × IsChosen plan worker before history io
    × (answer ≡ take_answer plan history (length (started before)) io)

-- nothing more is handed out
abbrev pub is_finished : Take → Bool
is_finished take.Finished = true
is_finished take.Wait = false
is_finished (take.Io t) = false
is_finished (take.Probe t) = false

-- a ticket that is handed out can be carried out
abbrev pub is_fitting : Take → Bool
is_fitting (take.Io t) = ticket_fits t
is_fitting (take.Probe t) = ticket_fits t
is_fitting take.Wait = true
is_fitting take.Finished = true

-- nothing is expected of its bytes, or what its own write put there
abbrev pub HandsOutOwn : Take → Type 0
HandsOutOwn (take.Io t) = ExpectsOwn t
HandsOutOwn (take.Probe t) = ExpectsOwn t
HandsOutOwn take.Wait = Unit {0}
HandsOutOwn take.Finished = Unit {0}

-- where the answer is to wait, nothing may be started after this history, and something flies or awaits its verdict
abbrev pub WaitsRightly : Plan → ℕ → List Event → Take → Type 0
WaitsRightly plan worker history take.Wait =
    (choice plan history worker ≡ None) × ¬ ((in_flight history ≡ []) × (awaiting history ≡ []))
WaitsRightly plan worker history take.Finished = Unit {0}
WaitsRightly plan worker history (take.Io t) = Unit {0}
WaitsRightly plan worker history (take.Probe t) = Unit {0}
