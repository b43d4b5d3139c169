use Rattle.std.proofs.Common.{◌∙◌, refl, sym, subst}
use Rattle.jr_model.specs.Legal.{is_complete}
use Rattle.jr_model.specs.Serial.{serial_history}
use Rattle.jr_laws_bytes.proofs.CleanLaws.{serial_clean}
use Rattle.jr_cli.proofs.CleanRuns.{clean_status}
use Rattle.jr_desk.specs.DeskState.{DeskState}
use Rattle.jr_crew_threads.specs.Stops.{IsCompleteOrAsked}
use Rattle.jr_cli.proofs.EndedRuns.{asked_on, interrupted_on, complete_on, desk_on, uninterrupted_on, faults_on}
use Rattle.jr_cli.proofs.QuietRuns.{reported_on, quietly_reported}
use Rattle.jr_cli.proofs.runs.execute_serial.Goals as goal
use Rattle.jr_cli.proofs.runs.execute_serial.Goals.{in-Some+in_ok-print_trace, in_default}

pub returns-clause-ended : goal.returns-clause-ended
returns-clause-ended g c =
    let desk = c.in_ok-ran.ran.desk in
    let history = desk.history in
    let done = c.in_ok-ran.ensures in
    let told = c.in_ok-ended.ensures in
    let reported = reported_on desk.plan c.args.plan history history _ _ _ done.plan refl told.reported in
    let found = faults_on desk.plan c.args.plan history c.in_ok-faults.faults c.in_ok-ended.ended.faults done.plan c.in_ok-faults.ensures told.faults in
    let kept = desk_on desk c.in_ok-ended.ended.desk c.args.plan done.plan told.desk in
    let left = interrupted_on c.args.watch.stop (is_complete c.args.plan history) _ _ done.asked told.asked in
    elim c.match-events.branch [
      | in-Some+in_ok-print_trace w ↦
          rw (w.events-is, w.in-Some.is) (history, done.ended, left, (reported, rw told.desk at w.in_ok-print_trace.ensures.printed, found, kept))
      | in_default w ↦ rw w.in_default.is (history, done.ended, left, (reported, tt, found, kept))
    ]

pub returns-clause-run : goal.returns-clause-run
returns-clause-run g c whole =
    let desk = c.in_ok-ran.ran.desk in
    let history = desk.history in
    let done = c.in_ok-ran.ensures in
    let told = c.in_ok-ended.ensures in
    let reported = reported_on desk.plan c.args.plan history history _ _ _ done.plan refl told.reported in
    let found = faults_on desk.plan c.args.plan history c.in_ok-faults.faults c.in_ok-ended.ended.faults done.plan c.in_ok-faults.ensures told.faults in
    let kept = desk_on desk c.in_ok-ended.ended.desk c.args.plan done.plan told.desk in
    let run = done.run (complete_on c.args.watch.stop (is_complete c.args.plan history) _ _ done.asked told.asked whole) in
    elim c.match-events.branch [
      | in-Some+in_ok-print_trace w ↦
          rw (w.events-is, w.in-Some.is) (history, run, (reported, rw told.desk at w.in_ok-print_trace.ensures.printed, found, kept))
      | in_default w ↦ rw w.in_default.is (history, run, (reported, tt, found, kept))
    ]

pub returns-clause-unasked : goal.returns-clause-unasked
returns-clause-unasked g c unasked =
    let desk = c.in_ok-ran.ran.desk in
    let done = c.in_ok-ran.ensures in
    uninterrupted_on c.args.watch.stop (is_complete c.args.plan desk.history) _ _ done.asked c.in_ok-ended.ensures.asked (done.unasked unasked)

pub returns-clause-serial : goal.returns-clause-serial
returns-clause-serial g c fresh whole =
    let desk = c.in_ok-ran.ran.desk in
    let done = c.in_ok-ran.ensures in
    let told = c.in_ok-ended.ensures in
    let same = done.serial fresh (complete_on c.args.watch.stop (is_complete c.args.plan desk.history) _ _ done.asked told.asked whole) in
    let reported = reported_on desk.plan c.args.plan desk.history (serial_history c.args.plan) _ _ _ done.plan same told.reported in
    elim c.match-events.branch [
      | in-Some+in_ok-print_trace w ↦
          rw (w.events-is, w.in-Some.is) (reported, rw (told.desk, same) at w.in_ok-print_trace.ensures.printed)
      | in_default w ↦ rw w.in_default.is (reported, tt)
    ]

pub returns-clause-clean : goal.returns-clause-clean
returns-clause-clean g c fresh good whole =
    let clean = serial_clean c.args.plan in
    (returns-clause-serial g c fresh whole).0.ends ∙ clean_status (serial_history c.args.plan) clean.0 good c.args.plan

pub returns-clause-asked : goal.returns-clause-asked
returns-clause-asked g c =
    let run = c.in_ok-ran.ran in
    subst (λ (d : DeskState). IsCompleteOrAsked c.args.watch.stop (is_complete c.args.plan d.history) c.in_ok-ended.ended.asked) (sym c.in_ok-ended.ensures.desk)
    (asked_on c.args.watch.stop (is_complete c.args.plan run.desk.history) _ _ c.in_ok-ran.ensures.asked c.in_ok-ended.ensures.asked)

pub returns-clause-quiet : goal.returns-clause-quiet
returns-clause-quiet g c whole =
    let desk = c.in_ok-ran.ran.desk in
    let done = c.in_ok-ran.ensures in
    let told = c.in_ok-ended.ensures in
    let complete = complete_on c.args.watch.stop (is_complete c.args.plan desk.history) _ _ done.asked told.asked whole in
    quietly_reported c.args.plan desk.history _ _ _ c.facts.ensures done.ended.unraced done.ended.legal complete
    (reported_on desk.plan c.args.plan desk.history desk.history _ _ _ done.plan refl told.reported)
