-- Claimed: the history of one worker over a right memory, in which nothing goes wrong.
use Rattle.std.specs.Prelude.{◌≡◌, ℕ, Bool, true, false, List, Some}
use Rattle.std.specs.List.{list_any}
use Rattle.jr_model.specs.declared.events.Event.{Event}
use Rattle.jr_model.specs.declared.events.Event.TheVariants.{Issue, Probe, Skip, End, Verdict}
use Rattle.jr_model.specs.Legal.{is_fault}
use Rattle.jr_model.specs.Plan.{Plan, SubJob, clone_of, checks_reads}
use Rattle.jr_model.specs.Quiet.{quiet_report}
use Rattle.jr_model.specs.Report.{report_of}
use Rattle.jr_model.specs.Serial.{serial_history}
use Rattle.jr_plan.specs.Files.{are_apart}
use Rattle.jr_model.specs.PlanFacts.{IsPlanned}
use Rattle.jr_laws_quiet.specs.Quiet.{is_quiet}
use Rattle.jr_laws_bytes.specs.BadVerdicts.{has_bad}
use Rattle.jr_laws_bytes.specs.Checks.{has_miscompare}

-- the event ends an I/O or check that failed or ended short
abbrev pub is_faulty_end : Event → Bool
is_faulty_end (End worker io outcome) = is_fault outcome
is_faulty_end (Issue worker kind write piece) = false
is_faulty_end (Probe worker write piece) = false
is_faulty_end (Skip worker write) = false
is_faulty_end (Verdict worker io verdict) = false

-- some I/O or check of the history failed or ended short
abbrev pub has_fault : List Event → Bool
has_fault history = list_any is_faulty_end history

-- the history of one worker over a right memory has no fault, and no Bad verdict on the check of a write
abbrev pub SerialIsClean : Type 0
SerialIsClean =
    (plan : Plan) → (has_fault (serial_history plan) ≡ false) × (has_miscompare (serial_history plan) ≡ false)

-- so it has none at all where no clone checks its reads
abbrev pub SerialIsGood : Type 0
SerialIsGood =
    (plan : Plan)
    → IsPlanned plan
    → ((c : ℕ) (job : SubJob) → clone_of plan c ≡ Some job → checks_reads job ≡ false)
    → has_bad (serial_history plan) ≡ false

-- where it has none, and no two clones have one file, its report is the one that the draws alone give
abbrev pub SerialIsQuiet : Type 0
SerialIsQuiet =
    (plan : Plan)
    → IsPlanned plan
    → are_apart plan.clones ≡ true
    → has_bad (serial_history plan) ≡ false
    → (is_quiet (serial_history plan) ≡ true) × (report_of plan (serial_history plan) ≡ quiet_report plan)
