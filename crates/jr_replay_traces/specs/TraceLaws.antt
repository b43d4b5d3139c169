-- Claimed: laws of traces: what is written of a whole legal run is accepted, with that run's totals, and nothing else is.
use Rattle.std.specs.Prelude.{◌≡◌, ℕ, Bool, true, ◌&&◌, List, [], ◌∷◌, ◌++◌, length, Ok}
use Rattle.jr_model.specs.declared.events.Event.{Event}
use Rattle.jr_model.specs.declared.events.Event.TheVariants as event
use Rattle.jr_model.specs.declared.events.Outcome.{Outcome}
use Rattle.jr_model.specs.declared.events.Outcome.TheVariants as outcome
use Rattle.jr_model.specs.declared.events.Verdict.{Verdict as GivenVerdict}
use Rattle.jr_model.specs.declared.events.Verdict.TheVariants as verdict
use Rattle.jr_model.specs.declared.events.What.{What}
use Rattle.jr_model.specs.declared.events.What.TheVariants as what
use Rattle.jr_model.specs.declared.events.WriteId.{WriteId}
use Rattle.jr_model.specs.declared.totals.Totals.{Totals}
use Rattle.jr_model.specs.History.{started}
use Rattle.jr_model.specs.Legal.{is_legal, is_complete}
use Rattle.jr_model.specs.Plan.{Plan}
use Rattle.jr_model.specs.Report.{all_totals}
use Rattle.jr_model.specs.PlanFacts.{IsPlanned}
use Rattle.jr_replay_traces.specs.declared.entries.Ending.{Ending}
use Rattle.jr_replay_traces.specs.declared.entries.Ending.TheVariants as ending
use Rattle.jr_replay_traces.specs.declared.entries.Entry.{Entry}
use Rattle.jr_replay_traces.specs.declared.entries.Entry.TheVariants as entry
use Rattle.jr_replay_traces.specs.declared.entries.Finding.{Finding}
use Rattle.jr_replay_traces.specs.declared.entries.Finding.TheVariants as finding
use Rattle.jr_replay_traces.specs.declared.entries.Name.{Name}
use Rattle.jr_replay_traces.specs.declared.entries.Start.{Start}
use Rattle.jr_replay_traces.specs.TraceChecks.{check_of, entry_fits, workers_fit}
use Rattle.jr_replay_traces.specs.Traces.{trace_of}

-- what the line of an event says, where so many I/Os and checks were started before it
abbrev pub name_of : WriteId → Name
name_of write = record { clone = write.clone; pass = write.pass; number = write.number }

abbrev pub start_by : ℕ → ℕ → WriteId → Start
start_by worker io write = record { worker = worker; io = io; write = name_of write }

abbrev pub ending_of : Outcome → Ending
ending_of outcome.Whole = ending.Whole
ending_of outcome.Failed = ending.Failed
ending_of (outcome.Short n) = ending.Short n

abbrev pub finding_of : GivenVerdict → Finding
finding_of verdict.Good = finding.Good
finding_of verdict.Void = finding.Void
finding_of (verdict.Bad w) = bad w
  where
    bad : What → Finding
    bad what.Header = finding.Header
    bad what.Digest = finding.Digest
    bad what.DataArea = finding.DataArea
    bad (what.Byte i) = finding.Byte i
    bad (what.Chunk i part) = finding.Chunk i part

abbrev pub entry_of : ℕ → Event → Entry
entry_of io (event.Issue worker kind write piece) = entry.Issue (start_by worker io write)
entry_of io (event.Probe worker write piece) = entry.Probe (start_by worker io write)
entry_of io (event.Skip worker write) = entry.Skip worker (name_of write)
entry_of io (event.End worker id outcome) = entry.End worker id (ending_of outcome)
entry_of io (event.Verdict by id verdict) = entry.Verdict by id (finding_of verdict)

-- the numbers in the lines of these events, which happen after those before, are below 2 to the power of 32, as the
-- numbers of the program's events are
abbrev pub lines_fit : List Event → List Event → Bool
lines_fit before [] = true
lines_fit before (event ∷ events) =
    entry_fits (entry_of (length (started before)) event) && lines_fit (before ++ event ∷ []) events

-- in a legal history of a plan all other numbers are small
abbrev pub NumbersFit : Type 0
NumbersFit =
    (plan : Plan) (history : List Event)
    → IsPlanned plan
    → is_legal plan history ≡ true
    → lines_fit [] history ≡ workers_fit history

-- the trace of a whole legal run of a plan is accepted, with what each clone did
abbrev pub TraceIsAccepted : Type 0
TraceIsAccepted =
    (plan : Plan) (history : List Event)
    → IsPlanned plan
    → is_legal plan history ≡ true
    → is_complete plan history ≡ true
    → workers_fit history ≡ true
    → check_of plan (trace_of history) ≡ Ok (all_totals plan history)

-- the text is the trace of this history, which is a whole legal run with these totals
pub record IsTraceOf (plan : Plan) (text : List ℕ) (totals : List Totals) (history : List Event) : Type 0 where
  pub written : text ≡ trace_of history
  pub legal : is_legal plan history ≡ true
  pub complete : is_complete plan history ≡ true
  pub fits : lines_fit [] history ≡ true
  pub counted : totals ≡ all_totals plan history

-- what is accepted is the trace of a whole legal run, and the totals are that run's
abbrev pub AcceptedIsATrace : Type 0
AcceptedIsATrace =
    (plan : Plan) (text : List ℕ) (totals : List Totals)
    → check_of plan text ≡ Ok totals
    → (history : List Event) × IsTraceOf plan text totals history
