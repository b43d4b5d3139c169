-- Believed: what each clone did, counted over all of a history (of this project).
use Rattle.std.specs.Prelude.{ℕ, Bool, true, false, ◌&&◌, List, Option, Some, None, length, map, sum, slice_get, filter_map, count_by, if◌then◌else◌}
use Rattle.jr_model.specs.declared.events.Event.{Event}
use Rattle.jr_model.specs.declared.events.Event.TheVariants.{Issue, Probe, Skip, End, Verdict}
use Rattle.jr_model.specs.declared.events.Verdict.{Verdict as GivenVerdict}
use Rattle.jr_model.specs.declared.tickets.TicketKind.{TicketKind}
use Rattle.jr_model.specs.declared.tickets.TicketKind.TheVariants as ticket
use Rattle.jr_model.specs.declared.totals.Totals.{Totals}
use Rattle.jr_model.specs.History.{Started, started, is_of_clone, is_write, ended_whole}
use Rattle.jr_model.specs.Legal.{is_io_of, is_fault, is_bad, is_void}
use Rattle.std.specs.Prelude.{◌==◌, not, ◌||◌}

abbrev pub is_read : TicketKind → Bool
is_read ticket.Read = true
is_read ticket.Write = false
is_read ticket.ReadCheck = true
is_read ticket.Probe = false

-- the I/O that the event ends with all its bytes, where these are started and it is one of the clone's that passes the test
abbrev pub if_wanted : (TicketKind → Bool) → ℕ → Bool → Option Started → Option Started
if_wanted test c whole None = None
if_wanted test c whole (Some io) = if whole && test io.kind && is_of_clone c io then Some io else None

abbrev pub moved_by : List Started → (TicketKind → Bool) → ℕ → Event → Option Started
moved_by ios test c (End worker io outcome) = if_wanted test c (ended_whole (Some outcome)) (slice_get ios io)
moved_by ios test c (Issue worker kind write piece) = None
moved_by ios test c (Probe worker write piece) = None
moved_by ios test c (Skip worker write) = None
moved_by ios test c (Verdict worker io verdict) = None

-- the clone's I/Os of a kind that ended with all their bytes
abbrev pub moved : List Event → (TicketKind → Bool) → ℕ → List Started
moved history test c = filter_map (moved_by (started history) test c) history

-- their bytes
abbrev pub bytes_of : List Started → ℕ
bytes_of ios = sum (map (λ (io : Started). io.piece.len) ios)

-- the event is a verdict on a check of the clone that passes the test
abbrev pub is_verdict_of : List Started → (GivenVerdict → Bool) → ℕ → Event → Bool
is_verdict_of ios test c (Verdict worker io verdict) = is_io_of c (slice_get ios io) && test verdict
is_verdict_of ios test c (Issue worker kind write piece) = false
is_verdict_of ios test c (Probe worker write piece) = false
is_verdict_of ios test c (Skip worker write) = false
is_verdict_of ios test c (End worker io outcome) = false

-- the event skips a write of the clone
abbrev pub is_skip_of : ℕ → Event → Bool
is_skip_of c (Skip worker write) = write.clone == c
is_skip_of c (Issue worker kind write piece) = false
is_skip_of c (Probe worker write piece) = false
is_skip_of c (End worker io outcome) = false
is_skip_of c (Verdict worker io verdict) = false

-- the event is a fault of the clone
abbrev pub is_fault_of : List Started → ℕ → Event → Bool
is_fault_of ios c (End worker io outcome) = is_io_of c (slice_get ios io) && is_fault outcome
is_fault_of ios c (Issue worker kind write piece) = false
is_fault_of ios c (Probe worker write piece) = false
is_fault_of ios c (Skip worker write) = false
is_fault_of ios c (Verdict worker io verdict) = false

-- what clone c did
abbrev pub totals_of : List Event → ℕ → Totals
totals_of history c =
    let ios = started history in
    let reads = moved history is_read c in
    let writes = moved history is_write c in
    record {
      reads = length reads;
      rbytes = bytes_of reads;
      writes = length writes;
      wbytes = bytes_of writes;
      checks = count_by (is_verdict_of ios (λ verdict. not (is_void verdict)) c) history;
      good = count_by (is_verdict_of ios (λ verdict. not (is_bad verdict || is_void verdict)) c) history;
      bad = count_by (is_verdict_of ios is_bad c) history;
      skipped = count_by (is_skip_of c) history;
      void = count_by (is_verdict_of ios is_void c) history;
      faults = count_by (is_fault_of ios c) history;
    }
