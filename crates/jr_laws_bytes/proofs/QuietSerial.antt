-- In the history of one worker over a right memory nothing goes wrong and nothing races, so its report is the one of the draws.
use Rattle.std.proofs.Common.{◌≡◌, true, false, List, [], ◌∷◌, refl}
use Rattle.std.proofs.lemmas.Bool.{or_parts, and_from, not_from_false}
use Rattle.jr_model.specs.declared.events.Event.{Event}
use Rattle.jr_model.specs.declared.events.Event.TheVariants.{Issue, Probe, Skip, End, Verdict}
use Rattle.jr_model.specs.Legal.{is_fault, is_bad}
use Rattle.jr_model.specs.Plan.{Plan}
use Rattle.jr_model.specs.Quiet.{quiet_report}
use Rattle.jr_model.specs.Report.{report_of}
use Rattle.jr_model.specs.Serial.{serial_history}
use Rattle.jr_model.proofs.SerialLaws.{rested_serial}
use Rattle.jr_plan.specs.Files.{are_apart}
use Rattle.jr_model.specs.PlanFacts.{IsPlanned}
use Rattle.jr_model.proofs.PlanLemmas.{numbered_of}
use Rattle.jr_laws_quiet.specs.Quiet.{is_calm, is_quiet}
use Rattle.jr_laws_quiet.proofs.Reports.{quiet_run_unraced}
use Rattle.jr_laws_bytes.specs.Clean.{is_faulty_end, has_fault}
use Rattle.jr_laws_bytes.specs.BadVerdicts.{is_bad_verdict, has_bad}
use Rattle.jr_laws_bytes.proofs.CleanLaws.{serial_clean}
use Rattle.jr_laws_steps.proofs.CountLaws.{serial_stops_all}
use Rattle.jr_laws_steps.proofs.DoneLaws.{serial_complete}

-- an event that is no fault and no bad verdict is calm
calm : (event : Event) → is_faulty_end event ≡ false → is_bad_verdict event ≡ false → is_calm event ≡ true
calm (End worker io outcome) fault bad = not_from_false (is_fault outcome) fault
calm (Verdict worker io verdict) fault bad = not_from_false (is_bad verdict) bad
calm (Issue worker dir write piece) fault bad = refl
calm (Probe worker write piece) fault bad = refl
calm (Skip worker write) fault bad = refl

-- a history without a fault and without a bad verdict is quiet
pub quiet_of : (history : List Event) → has_fault history ≡ false → has_bad history ≡ false → is_quiet history ≡ true
quiet_of [] fault bad = refl
quiet_of (event ∷ events) fault bad =
    let faults = or_parts (is_faulty_end event) (has_fault events) fault in
    let bads = or_parts (is_bad_verdict event) (has_bad events) bad in
    and_from (is_calm event) (is_quiet events) (calm event faults.0 bads.0) (quiet_of events faults.1 bads.1)

pub serial_quiet : (plan : Plan) → IsPlanned plan → are_apart plan.clones ≡ true → has_bad (serial_history plan) ≡ false → (is_quiet (serial_history plan) ≡ true) × (report_of plan (serial_history plan) ≡ quiet_report plan)
serial_quiet plan planned apart good =
    let clean = serial_clean plan in
    let quiet = quiet_of (serial_history plan) clean.0 good in
    let rested = rested_serial plan (numbered_of plan planned) in
    let complete = serial_complete plan planned (serial_stops_all plan planned) in
    (quiet, quiet_run_unraced plan (serial_history plan) planned rested.unraced apart rested.well.legal complete quiet)
