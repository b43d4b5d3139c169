-- Believed: what a run of the program is, and how it ends (of this project).
use Rattle.std.proofs.Common.{inl, inr}
use Rattle.std.specs.Prelude.{◌≡◌, ◌⊎◌, ℕ, Bool, true, not, List, Option, Some, None}
use Rattle.std.specs.Borrow.{MutBor}
use Rattle.std.specs.Io.KnownBytes.{Appends}
use Rattle.jr_model.specs.declared.events.Event.{Event}
use Rattle.jr_model.specs.Legal.{is_complete}
use Rattle.jr_model.specs.Plan.{Plan}
use Rattle.jr_model.specs.Replies.{EngineState}
use Rattle.jr_model.specs.Quiet.{quiet_report}
use Rattle.jr_model.specs.Report.{all_totals, report_of}
use Rattle.jr_plan.specs.Files.{are_apart}
use Rattle.jr_replay_traces.specs.Traces.{trace_of}
use Rattle.jr_run_faults.specs.declared.runs.RunFault.TheVariants as run
use Rattle.jr_crew_books.specs.declared.books.Done.{Done}
use Rattle.jr_crew.specs.Whole.{IsRun, IsCrewRun, IsEndedRun, IsEndedCrewRun}
use Rattle.jr_cli_words.specs.declared.faults.CliFault.{CliFault}
use Rattle.jr_cli_words.specs.declared.faults.CliFault.TheVariants as fault
use Rattle.jr_cli_ends.specs.Status.{status_of}
use Rattle.jr_desk.specs.DeskState.{DeskState}

-- the desk that is handed on is that of the run
pub record IsDeskOf (plan : Plan) (history : List Event) (desk : DeskState) : Type 0 where
  pub planned : desk.plan ≡ plan
  pub happened : desk.history ≡ history

-- the report of the history was written behind what stood there, and what was found is what its totals say
pub record IsReported (plan : Plan) (history : List Event) (blank written : Option (List ℕ)) (status : ℕ) : Type 0 where
  pub report : Appends blank written (report_of plan history)
  pub ends : status ≡ status_of (all_totals plan history)

-- a run of one worker over an engine that was so before, and is so after, has a history of which this holds
abbrev pub HasRun : Plan → EngineState → EngineState → (List Event → Type 0) → Type 0
HasRun plan before after Holds = (history : List Event) × IsRun plan history before after × Holds history

-- a run of many workers over engines that were so before has a history of which this holds
abbrev pub HasCrewRun : Plan → List EngineState → (List Event → Type 0) → Type 0
HasCrewRun plan befores Holds =
    (history : List Event) × (afters : List EngineState) × (books : List (List Done)) × IsCrewRun plan history befores afters books × Holds history

-- the same of runs that may have been asked to stop; they were interrupted where the history isn't complete
abbrev pub HasEndedRun : Plan → EngineState → EngineState → Bool → (List Event → Type 0) → Type 0
HasEndedRun plan before after interrupted Holds =
    (history : List Event) × IsEndedRun plan history before after × (interrupted ≡ not (is_complete plan history)) × Holds history

abbrev pub HasEndedCrewRun : Plan → List EngineState → Bool → (List Event → Type 0) → Type 0
HasEndedCrewRun plan befores interrupted Holds =
    (history : List Event) × (afters : List EngineState) × (books : List (List Done))
    × IsEndedCrewRun plan history befores afters books × (interrupted ≡ not (is_complete plan history)) × Holds history

-- where no two clones have one file and the status is clean, what was written is the report that the draws alone give
abbrev pub IsQuietlyReported : Plan → Option (List ℕ) → Option (List ℕ) → ℕ → Type 0
IsQuietlyReported plan blank written status = are_apart plan.clones ≡ true → status ≡ 0 → Appends blank written (quiet_report plan)

-- what an `Option<&mut W>` leaves: nothing at `None`, and the writer as it is then at `Some`
abbrev pub LeftWriter : Type 0 → Type 0
LeftWriter W = Unit {0} ⊎ ((MutBor W × Unit {0}) ⊎ ⊥)

-- where there is a writer for it, the trace of the history was written behind what stood there
abbrev pub IsTraced : {W : Type 0} → (W → Option (List ℕ)) → Option (MutBor W) → LeftWriter W → List Event → Type 0
IsTraced contents None left history = Unit {0}
IsTraced contents (Some writer) (inr (inl left)) history = Appends (contents writer.now) (contents left.0.now) (trace_of history)
IsTraced contents (Some writer) left history = ⊥

-- why a run ends without its report, or with a cut one: memory was wanting, or writing failed
abbrev pub IsCutShort : CliFault → Type 0
IsCutShort f = (f ≡ fault.Run run.Memory) ⊎ ((f ≡ fault.Memory) ⊎ (f ≡ fault.Write))

-- the same of many workers: they met a fault, memory was wanting, or writing failed
abbrev pub IsRunFault : CliFault → Type 0
IsRunFault (fault.Run f) = Unit {0}
IsRunFault fault.Memory = Unit {0}
IsRunFault fault.Write = Unit {0}
IsRunFault other = ⊥
