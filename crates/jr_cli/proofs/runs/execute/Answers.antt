use Rattle.std.proofs.Common.{◌≡◌, ◌<◌, [], refl, sym, subst}
use Rattle.jr_model.specs.Legal.{is_complete}
use Rattle.jr_model.proofs.PlanLemmas.{numbered_of}
use Rattle.jr_laws_quiet.proofs.Races.{unraced}
use Rattle.jr_desk.specs.DeskState.{DeskState}
use Rattle.jr_crew_threads.specs.Stops.{IsCompleteOrAsked}
use Rattle.jr_cli_words.specs.declared.faults.CliFault.{CliFault}
use Rattle.jr_cli_words.specs.declared.faults.CliFault.TheVariants as fault
use Rattle.jr_run_faults.specs.declared.runs.RunFault.TheVariants as run
use Rattle.jr_cli.specs.Executed.{IsRunFault}
use Rattle.jr_cli.proofs.CutShort.{ends_a_run, of_handed, wants_no_engine, wants_no_thread}
use Rattle.jr_cli.proofs.EndedRuns.{asked_on, interrupted_on, complete_on, desk_on, uninterrupted_on, faults_on}
use Rattle.jr_cli.proofs.QuietRuns.{reported_on, quietly_reported}
use Rattle.jr_cli.proofs.runs.execute.Goals as goal
use Rattle.jr_cli.proofs.runs.execute.Goals.{in-Some+in_ok-print_trace, in_default}

pub returns-clause-ended : goal.returns-clause-ended
returns-clause-ended g c =
    let ran = c.in_ok-ran.ran in
    let done = c.in_ok-ran.ensures.booked in
    let history = ran.desk.history in
    let told = c.in_ok-told.ensures in
    let reported = reported_on ran.desk.plan c.args.plan history history _ _ _ done.planned refl told.reported in
    let found = faults_on ran.desk.plan c.args.plan history c.in_ok-faults.faults c.in_ok-told.told.faults done.planned c.in_ok-faults.ensures told.faults in
    let kept = desk_on ran.desk c.in_ok-told.told.desk c.args.plan done.planned told.desk in
    let left = interrupted_on c.args.watch.stop (is_complete c.args.plan history) _ _ c.in_ok-ran.ensures.asked told.asked in
    elim c.match-events.branch [
      | in-Some+in_ok-print_trace w ↦
          rw (w.events-is, w.in-Some.is) (history, _, _, done.ended, left, (reported, rw told.desk at w.in_ok-print_trace.ensures.printed, found, kept))
      | in_default w ↦ rw w.in_default.is (history, _, _, done.ended, left, (reported, tt, found, kept))
    ]

pub returns-clause-run : goal.returns-clause-run
returns-clause-run g c whole =
    let ran = c.in_ok-ran.ran in
    let done = c.in_ok-ran.ensures.booked in
    let history = ran.desk.history in
    let told = c.in_ok-told.ensures in
    let reported = reported_on ran.desk.plan c.args.plan history history _ _ _ done.planned refl told.reported in
    let found = faults_on ran.desk.plan c.args.plan history c.in_ok-faults.faults c.in_ok-told.told.faults done.planned c.in_ok-faults.ensures told.faults in
    let kept = desk_on ran.desk c.in_ok-told.told.desk c.args.plan done.planned told.desk in
    let run = done.run (complete_on c.args.watch.stop (is_complete c.args.plan history) _ _ c.in_ok-ran.ensures.asked told.asked whole) in
    elim c.match-events.branch [
      | in-Some+in_ok-print_trace w ↦
          rw (w.events-is, w.in-Some.is) (history, _, _, run, (reported, rw told.desk at w.in_ok-print_trace.ensures.printed, found, kept))
      | in_default w ↦ rw w.in_default.is (history, _, _, run, (reported, tt, found, kept))
    ]

pub returns-clause-unasked : goal.returns-clause-unasked
returns-clause-unasked g c unasked =
    let ran = c.in_ok-ran.ran in
    let done = c.in_ok-ran.ensures.booked in
    uninterrupted_on c.args.watch.stop (is_complete c.args.plan ran.desk.history) _ _ c.in_ok-ran.ensures.asked c.in_ok-told.ensures.asked (done.unasked unasked)

pub returns-clause-asked : goal.returns-clause-asked
returns-clause-asked g c =
    let run = c.in_ok-ran.ran in
    subst (λ (d : DeskState). IsCompleteOrAsked c.args.watch.stop (is_complete c.args.plan d.history) c.in_ok-told.told.asked) (sym c.in_ok-told.ensures.desk)
    (asked_on c.args.watch.stop (is_complete c.args.plan run.desk.history) _ _ c.in_ok-ran.ensures.asked c.in_ok-told.ensures.asked)

pub returns-clause-quiet : goal.returns-clause-quiet
returns-clause-quiet g c whole none =
    let ran = c.in_ok-ran.ran in
    let done = c.in_ok-ran.ensures.booked in
    let told = c.in_ok-told.ensures in
    let complete = complete_on c.args.watch.stop (is_complete c.args.plan ran.desk.history) _ _ c.in_ok-ran.ensures.asked told.asked whole in
    quietly_reported c.args.plan ran.desk.history _ _ _ c.facts.ensures
    (unraced c.args.plan (numbered_of c.args.plan c.facts.ensures) none ran.desk.history done.ended.legal) done.ended.legal complete
    (reported_on ran.desk.plan c.args.plan ran.desk.history ran.desk.history _ _ _ done.planned refl told.reported)

pub returns-in_err-print_trace-clause-no_engine : goal.returns-in_err-print_trace-clause-no_engine
returns-in_err-print_trace-clause-no_engine g c =
    of_handed (λ (f : CliFault). f ≡ fault.Run run.NoEngine → c.args.engines.items ≡ []) c.from_residual-in_err-print_trace.result
    c.in_err-print_trace.field-0.0 c.from_residual-in_err-print_trace.ensures.1
    (λ is. absurd (wants_no_engine c.in_err-print_trace.field-0.0 c.in_err-print_trace.ensures.failed is))

pub returns-in_err-print_trace-clause-thread : goal.returns-in_err-print_trace-clause-thread
returns-in_err-print_trace-clause-thread g c =
    of_handed (λ (f : CliFault). f ≡ fault.Run run.Thread → 0 < c.args.plan.verifiers) c.from_residual-in_err-print_trace.result
    c.in_err-print_trace.field-0.0 c.from_residual-in_err-print_trace.ensures.1
    (λ is. absurd (wants_no_thread c.in_err-print_trace.field-0.0 c.in_err-print_trace.ensures.failed is))

pub returns-in_err-print_trace-clause-failed : goal.returns-in_err-print_trace-clause-failed
returns-in_err-print_trace-clause-failed g c =
    of_handed IsRunFault c.from_residual-in_err-print_trace.result c.in_err-print_trace.field-0.0
    c.from_residual-in_err-print_trace.ensures.1 (ends_a_run c.in_err-print_trace.field-0.0 c.in_err-print_trace.ensures.failed)
