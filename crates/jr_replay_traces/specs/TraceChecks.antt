-- Believed: what checking a trace finds: its first faulty line, or whether it is a whole legal run (of this project).
use Rattle.std.specs.Prelude.{◌≡◌, ⊤, ℕ, ◌+◌, ◌^◌, ◌==◌, nat_lt, Bool, true, ◌&&◌, List, [], ◌∷◌, ◌++◌, length, slice_get, Option, Some, None, Result, Ok, Err, ok_or, if◌then◌else◌}
use Rattle.std.specs.List.{list_all, slice_split}
use Rattle.std.specs.Option.{option_map}
use Rattle.jr_model.specs.declared.events.Event.{Event}
use Rattle.jr_model.specs.declared.events.Event.TheVariants as event
use Rattle.jr_model.specs.declared.events.Outcome.{Outcome}
use Rattle.jr_model.specs.declared.events.Outcome.TheVariants as outcome
use Rattle.jr_model.specs.declared.events.Verdict.{Verdict as GivenVerdict}
use Rattle.jr_model.specs.declared.events.Verdict.TheVariants as verdict
use Rattle.jr_model.specs.declared.events.What.TheVariants as what
use Rattle.jr_model.specs.declared.events.WriteId.{WriteId}
use Rattle.jr_model.specs.declared.totals.Totals.{Totals}
use Rattle.jr_model.specs.declared.workloads.Draw.{Draw}
use Rattle.jr_model.specs.Draws.{draws_of, draws_of_job}
use Rattle.jr_model.specs.History.{started}
use Rattle.jr_model.specs.Legal.{may_happen, is_complete}
use Rattle.jr_model.specs.Plan.{Plan, SubJob, clone_of, issued_as}
use Rattle.jr_model.specs.Report.{all_totals}
use Rattle.jr_replay_traces.specs.declared.entries.Ending.{Ending}
use Rattle.jr_replay_traces.specs.declared.entries.Ending.TheVariants as ending
use Rattle.jr_replay_traces.specs.declared.entries.Entry.{Entry}
use Rattle.jr_replay_traces.specs.declared.entries.Entry.TheVariants as entry
use Rattle.jr_replay_traces.specs.declared.entries.Finding.{Finding}
use Rattle.jr_replay_traces.specs.declared.entries.Finding.TheVariants as finding
use Rattle.jr_replay_traces.specs.declared.entries.Name.{Name}
use Rattle.jr_run_faults.specs.declared.traces.TraceFault.{TraceFault}
use Rattle.jr_run_faults.specs.declared.traces.TraceFault.TheVariants.{Line, Illegal, Unfinished, Memory}
use Rattle.jr_replay_traces.specs.TraceLines.{read_line}

abbrev pub is_newline : ℕ → Bool
is_newline b = b == 10

-- the numbers of events are below 2 to the power of 32
abbrev pub is_small : ℕ → Bool
is_small n = nat_lt n (2 ^ 32)

-- the worker of an event
abbrev pub worker_of : Event → ℕ
worker_of (event.Issue worker kind write piece) = worker
worker_of (event.Probe worker write piece) = worker
worker_of (event.Skip worker write) = worker
worker_of (event.End worker id outcome) = worker
worker_of (event.Verdict worker id verdict) = worker

-- the workers are numbered below 2 to the power of 32, as those of a desk are
abbrev pub workers_fit : List Event → Bool
workers_fit history = list_all (λ (event : Event). is_small (worker_of event)) history

abbrev pub name_fits : Name → Bool
name_fits write = is_small write.clone && is_small write.pass && is_small write.number

abbrev pub ending_fits : Ending → Bool
ending_fits ending.Whole = true
ending_fits ending.Failed = true
ending_fits (ending.Short n) = is_small n

abbrev pub finding_fits : Finding → Bool
finding_fits finding.Good = true
finding_fits finding.Header = true
finding_fits finding.Digest = true
finding_fits finding.DataArea = true
finding_fits (finding.Byte i) = is_small i
finding_fits (finding.Chunk i part) = is_small i
finding_fits finding.Void = true

abbrev pub entry_fits : Entry → Bool
entry_fits (entry.Issue start) = is_small start.worker && is_small start.io && name_fits start.write
entry_fits (entry.Probe start) = is_small start.worker && is_small start.io && name_fits start.write
entry_fits (entry.Skip worker write) = is_small worker && name_fits write
entry_fits (entry.End worker io ending) = is_small worker && is_small io && ending_fits ending
entry_fits (entry.Verdict by io finding) = is_small by && is_small io && finding_fits finding

-- what is started has the next number
abbrev pub is_numbered : List Event → Entry → Bool
is_numbered history (entry.Issue start) = start.io == length (started history)
is_numbered history (entry.Probe start) = start.io == length (started history)
is_numbered history (entry.Skip worker write) = true
is_numbered history (entry.End worker io ending) = true
is_numbered history (entry.Verdict by io finding) = true

-- the parts of an event
abbrev pub write_of : Name → WriteId
write_of write = record { clone = write.clone; pass = write.pass; number = write.number }

abbrev pub outcome_of : Ending → Outcome
outcome_of ending.Whole = outcome.Whole
outcome_of ending.Failed = outcome.Failed
outcome_of (ending.Short n) = outcome.Short n

abbrev pub verdict_of : Finding → GivenVerdict
verdict_of finding.Good = verdict.Good
verdict_of finding.Header = verdict.Bad what.Header
verdict_of finding.Digest = verdict.Bad what.Digest
verdict_of finding.DataArea = verdict.Bad what.DataArea
verdict_of (finding.Byte i) = verdict.Bad (what.Byte i)
verdict_of (finding.Chunk i part) = verdict.Bad (what.Chunk i part)
verdict_of finding.Void = verdict.Void

-- the draw of this name, if the plan has it
abbrev pub draw_of : Plan → WriteId → Option Draw
draw_of plan write = slice_get (draws_of plan write.clone write.pass) write.number

-- the issue of the draw of this name, where its clone is there and has it
abbrev pub issue_of : Option SubJob → ℕ → WriteId → Option Event
issue_of None worker write = None
issue_of (Some job) worker write =
    option_map (λ (draw : Draw). event.Issue worker (issued_as job draw.dir) write draw.piece)
    (slice_get (draws_of_job job write.pass) write.number)

-- the event that a line speaks of: the plan gives the pieces, and what each draw is issued as
abbrev pub event_of : Plan → Entry → Option Event
event_of plan (entry.Issue start) =
    let write = write_of start.write in
    issue_of (clone_of plan write.clone) start.worker write
event_of plan (entry.Probe start) =
    let write = write_of start.write in
    option_map (λ (draw : Draw). event.Probe start.worker write draw.piece) (draw_of plan write)
event_of plan (entry.Skip worker write) = Some (event.Skip worker (write_of write))
event_of plan (entry.End worker io ending) = Some (event.End worker io (outcome_of ending))
event_of plan (entry.Verdict by io finding) = Some (event.Verdict by io (verdict_of finding))

-- the event, where it is there and may happen after the history
abbrev pub if_legal : Plan → List Event → Option Event → Option Event
if_legal plan history None = None
if_legal plan history (Some event) = if may_happen plan history event then Some event else None

abbrev pub legal_event : Plan → List Event → Entry → Option Event
legal_event plan history entry =
    if entry_fits entry && is_numbered history entry then if_legal plan history (event_of plan entry) else None

-- the event of line n after the history, or what is wrong with the line
abbrev pub entry_event : Plan → List Event → ℕ → Option Entry → Result Event TraceFault
entry_event plan history n None = Err (Line n)
entry_event plan history n (Some entry) = ok_or (legal_event plan history entry) (Illegal n)

abbrev pub line_event : Plan → List Event → ℕ → List ℕ → Result Event TraceFault
line_event plan history n line = entry_event plan history n (read_line line)

-- what follows where nothing was wrong
abbrev pub after : {A B : Type 0} → Result A TraceFault → (A → Result B TraceFault) → Result B TraceFault
after (Ok x) f = f x
after (Err fault) f = Err fault

-- the history with the events of these lines, of which the first is line n, or the first fault; nothing may stand
-- behind the last line feed
abbrev pub lines_read : Plan → List Event → ℕ → List (List ℕ) → Result (List Event) TraceFault
lines_read plan history n [] = Ok history
lines_read plan history n (rest ∷ []) = if length rest == 0 then Ok history else Err (Line n)
lines_read plan history n (line ∷ next ∷ more) =
    after (line_event plan history n line) (λ event. lines_read plan (history ++ event ∷ []) (n + 1) (next ∷ more))

-- the history that a text says, or its first fault
abbrev pub history_in : Plan → List ℕ → Result (List Event) TraceFault
history_in plan text = lines_read plan [] 1 (slice_split is_newline text)

-- what checking a text finds: the totals of a whole legal run, or why it is none
abbrev pub check_of : Plan → List ℕ → Result (List Totals) TraceFault
check_of plan text =
    after (history_in plan text)
    (λ history. if is_complete plan history then Ok (all_totals plan history) else Err Unfinished)

-- the same of a run that may have been left halfway: the totals of a legal history
abbrev pub check_of_part : Plan → List ℕ → Result (List Totals) TraceFault
check_of_part plan text = after (history_in plan text) (λ history. Ok (all_totals plan history))

-- this is what is wrong; want of memory says nothing
abbrev pub IsRefusal : {T : Type 0} → TraceFault → Result T TraceFault → Type 0
IsRefusal (Line n) found = found ≡ Err (Line n)
IsRefusal (Illegal n) found = found ≡ Err (Illegal n)
IsRefusal Unfinished found = found ≡ Err Unfinished
IsRefusal Memory found = ⊤
