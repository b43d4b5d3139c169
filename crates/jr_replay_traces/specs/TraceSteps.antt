-- Internal: how a line's event is found from the step that may happen with its draw.
use Rattle.std.specs.Prelude.{ℕ, ◌==◌, ◌&&◌, not, List, length, slice_get, Option, Some, None, if◌then◌else◌}
use Rattle.jr_model.specs.declared.events.Event.{Event}
use Rattle.jr_model.specs.declared.events.Event.TheVariants.{Issue, Probe, Skip, End, Verdict}
use Rattle.jr_model.specs.declared.events.WriteId.{WriteId}
use Rattle.jr_model.specs.History.{started, flies, outcome_of as how_ended, is_judged, ended_whole, same_write}
use Rattle.jr_model.specs.Legal.{end_fits, step_at, verdict_fits}
use Rattle.jr_model.specs.Plan.{Plan}
use Rattle.jr_model.specs.Races.{has_raced}
use Rattle.jr_replay_traces.specs.declared.entries.Ending.{Ending}
use Rattle.jr_replay_traces.specs.declared.entries.Entry.{Entry}
use Rattle.jr_replay_traces.specs.declared.entries.Entry.TheVariants as entry
use Rattle.jr_replay_traces.specs.declared.entries.Finding.{Finding}
use Rattle.jr_replay_traces.specs.declared.entries.Start.{Start}
use Rattle.jr_replay_traces.specs.TraceChecks.{is_small, name_fits, ending_fits, finding_fits, write_of, outcome_of, verdict_of}

-- the worker and the draw of a start that has the next number
abbrev pub begun : List Event → Start → Option (ℕ × WriteId)
begun history start =
    if is_small start.worker && is_small start.io && name_fits start.write && (start.io == length (started history))
    then Some (start.worker, write_of start.write) else None

-- the worker and the draw of a line that starts what has the next number, or skips a write
abbrev pub named : List Event → Entry → Option (ℕ × WriteId)
named history (entry.Issue start) = begun history start
named history (entry.Probe start) = begun history start
named history (entry.Skip worker write) = if is_small worker && name_fits write then Some (worker, write_of write) else None
named history (entry.End worker io ending) = None
named history (entry.Verdict by io finding) = None

-- the end of an I/O, where it may end so
abbrev pub ended : List Event → ℕ → ℕ → Ending → Option Event
ended history worker io ending =
    if is_small worker && is_small io && ending_fits ending
    && (flies history io && end_fits worker (outcome_of ending) (slice_get (started history) io))
    then Some (End worker io (outcome_of ending)) else None

-- the verdict on an I/O, where it may have it
abbrev pub judged : Plan → List Event → ℕ → ℕ → Finding → Option Event
judged plan history by io finding =
    if is_small by && is_small io && finding_fits finding
    && (ended_whole (how_ended history io) && not (is_judged history io)
    && verdict_fits plan (has_raced history io) (verdict_of finding) (slice_get (started history) io))
    then Some (Verdict by io (verdict_of finding)) else None

-- the issue of this draw, where the step is one
abbrev pub issue_in : ℕ → WriteId → Option Event → Option Event
issue_in worker write (Some (Issue w kind issued piece)) =
    if same_write issued write then Some (Issue worker kind write piece) else None
issue_in worker write (Some (Probe w probed piece)) = None
issue_in worker write (Some (Skip w skipped)) = None
issue_in worker write (Some (End w io outcome)) = None
issue_in worker write (Some (Verdict w io verdict)) = None
issue_in worker write None = None

-- the check of this write, where the step is one
abbrev pub probe_in : ℕ → WriteId → Option Event → Option Event
probe_in worker write (Some (Probe w probed piece)) =
    if same_write probed write then Some (Probe worker write piece) else None
probe_in worker write (Some (Issue w kind issued piece)) = None
probe_in worker write (Some (Skip w skipped)) = None
probe_in worker write (Some (End w io outcome)) = None
probe_in worker write (Some (Verdict w io verdict)) = None
probe_in worker write None = None

-- the skip of this write, where the step is one
abbrev pub skip_in : ℕ → WriteId → Option Event → Option Event
skip_in worker write (Some (Skip w skipped)) = if same_write skipped write then Some (Skip worker write) else None
skip_in worker write (Some (Issue w kind issued piece)) = None
skip_in worker write (Some (Probe w probed piece)) = None
skip_in worker write (Some (End w io outcome)) = None
skip_in worker write (Some (Verdict w io verdict)) = None
skip_in worker write None = None

-- the event of a line that starts or skips, where the step is one
abbrev pub event_in : Entry → ℕ → WriteId → Option Event → Option Event
event_in (entry.Issue start) worker write step = issue_in worker write step
event_in (entry.Probe start) worker write step = probe_in worker write step
event_in (entry.Skip w skipped) worker write step = skip_in worker write step
event_in (entry.End w io ending) worker write step = None
event_in (entry.Verdict by io finding) worker write step = None

-- the same by the step that may happen with the draw that the line names
abbrev pub event_named : Plan → List Event → Entry → Option (ℕ × WriteId) → Option Event
event_named plan history entry None = None
event_named plan history entry (Some x) = event_in entry x.0 x.1 (step_at plan history x.0 x.1)
