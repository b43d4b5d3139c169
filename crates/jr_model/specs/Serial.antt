-- Believed: the history of one worker over a memory that keeps what is written (of this project).
use Rattle.std.specs.Prelude.{ℕ, zero, suc, ◌*◌, List, [], ◌∷◌, ◌++◌, length, fold, slice_get, Option, Some, None, if◌then◌else◌}
use Rattle.jr_model.specs.declared.events.Event.{Event}
use Rattle.jr_model.specs.declared.events.Event.TheVariants.{Issue, Probe, Skip, End, Verdict}
use Rattle.jr_model.specs.declared.events.Outcome.TheVariants.{Whole}
use Rattle.jr_model.specs.declared.events.Verdict.TheVariants.{Good}
use Rattle.jr_model.specs.declared.tickets.TicketKind.{TicketKind}
use Rattle.jr_model.specs.declared.tickets.TicketKind.TheVariants as ticket
use Rattle.jr_model.specs.Choice.{choice}
use Rattle.jr_model.specs.History.{Started, started, started_by, is_write, ended_whole}
use Rattle.jr_model.specs.Machine.{content_of_io, verdict_on, work_of}
use Rattle.jr_model.specs.Plan.{Plan}
use Rattle.jr_model.specs.Replies.{FileBytes, fresh_memory, memory_with, stored}

-- the bytes of the files once this I/O has ended whole
abbrev pub with_io : Plan → List FileBytes → Option Started → List FileBytes
with_io plan memory None = memory
with_io plan memory (Some io) =
    if is_write io.kind then memory_with memory io.piece.file io.piece.offset (content_of_io plan io) else memory

-- once this event has happened, where these I/Os are started
abbrev pub memory_by : Plan → List Started → List FileBytes → Event → List FileBytes
memory_by plan ios memory (End worker io outcome) = if ended_whole (Some outcome) then with_io plan memory (slice_get ios io) else memory
memory_by plan ios memory (Issue worker kind write piece) = memory
memory_by plan ios memory (Probe worker write piece) = memory
memory_by plan ios memory (Skip worker write) = memory
memory_by plan ios memory (Verdict worker io verdict) = memory

-- the bytes of the files after a history, where each write that ended whole put its content there, and there were zeros before
abbrev pub memory_after : Plan → List Event → List FileBytes
memory_after plan history =
    let ios = started history in
    fold (memory_by plan ios) (fresh_memory plan.files) history

-- what the memory has of the I/O's piece
abbrev pub stored_for : List FileBytes → Started → List ℕ
stored_for memory io = stored memory io.piece.file io.piece.offset io.piece.len

-- what worker 0 makes at once of an I/O of this kind: it ends whole; a check is good, and a checked read gets the verdict on the
-- bytes that are there
abbrev pub ends_as : Plan → List FileBytes → ℕ → Started → TicketKind → List Event
ends_as plan memory id io ticket.Read = End 0 id Whole ∷ []
ends_as plan memory id io ticket.Write = End 0 id Whole ∷ []
ends_as plan memory id io ticket.Probe = End 0 id Whole ∷ Verdict 0 id Good ∷ []
ends_as plan memory id io ticket.ReadCheck = End 0 id Whole ∷ Verdict 0 id (verdict_on plan io (stored_for memory io)) ∷ []

-- of what an event started, if it started anything
abbrev pub followed_by : Plan → List FileBytes → ℕ → Option Started → List Event
followed_by plan memory id None = []
followed_by plan memory id (Some io) = ends_as plan memory id io io.kind

-- a choice carried out after a history
abbrev pub carried_out : Plan → List Event → Event → List Event
carried_out plan history event =
    event ∷ followed_by plan (memory_after plan history) (length (started history)) (started_by event)

-- the history with the choice carried out, and then whatever follows; as it is where there is no choice
abbrev pub goes_on : Plan → (List Event → List Event) → List Event → Option Event → List Event
goes_on plan rest history None = history
goes_on plan rest history (Some event) = rest (history ++ carried_out plan history event)

-- choices carried out after a history, at most so many
abbrev pub serial_after : ℕ → Plan → List Event → List Event
serial_after zero plan history = history
serial_after (suc limit) plan history = goes_on plan (serial_after limit plan) history (choice plan history 0)

-- choices carried out until there is none: each draw is issued once, and checked or skipped once at most
abbrev pub serial_history : Plan → List Event
serial_history plan = serial_after (2 * work_of plan) plan []
