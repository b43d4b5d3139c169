use Rattle.std.proofs.Common.{◌≡◌, false, ◌&&◌, sym, ◌∙◌, arith}
use Rattle.jr_model.specs.Rounds.{has_rounds}
use Rattle.jr_backlog.specs.CurrentRound.{current_round}
use Rattle.jr_laws_rounds.specs.Standing.{is_under_way}
use Rattle.jr_desk_state.proofs.ChoiceCounts.{busy_here, checks_first, counts_here, few, free_here, issues_next, no_rounds}
use Rattle.jr_desk_state.proofs.ChoiceCounts.{none_barred, none_full, none_halted, none_unopened, none_waits, runs_on, waits_now}
use Rattle.jr_desk_state.proofs.StandingHere.{of_job, prepared, stands_here}
use Rattle.jr_desk_state.proofs.choosing.step_of_clone.Goals as goal
use Rattle.jr_desk_state.proofs.choosing.step_of_clone.Goals.{Joined-else-has_rounds}
use Rattle.jr_desk_state.proofs.choosing.step_of_clone.Goals.{then-counts-via-then-counts, then-counts-via-else-counts+then-counts-depth}
use Rattle.jr_desk_state.proofs.choosing.step_of_clone.Goals.{else-has_rounds-via-then-has_rounds+else-is_under_way}
use Rattle.jr_desk_state.proofs.choosing.step_of_clone.Goals.{else-has_rounds-via-else-has_rounds}

pub overflow_add-counts : goal.overflow_add-counts
overflow_add-counts c =
    let it = counts_here (stands_here c.args.clone c.requires.board c.clone_at-job.ensures.value c.index-standing.ensures)
    c.index-counts.ensures in
    omega (arith, few it)

pub returns-then-counts-clause-step : goal.returns-then-counts-clause-step
returns-then-counts-clause-step c =
    let it = counts_here (stands_here c.args.clone c.requires.board c.clone_at-job.ensures.value c.index-standing.ensures)
    c.index-counts.ensures in
    of_job it.here _ (elim c.then-counts.branch [
      | then-counts-via-then-counts w ↦ none_halted it c.args.worker w.if-counts.true
      | then-counts-via-else-counts+then-counts-depth w ↦
          none_full it c.args.worker (omega (arith, w.if-counts-depth.true, w.depth.ensures))
    ])

pub is_under_way-requires : goal.is_under_way-requires
is_under_way-requires c =
    let here = stands_here c.args.clone c.requires.board c.clone_at-job.ensures.value c.index-standing.ensures in
    (prepared here c.requires.ready).settled

pub returns-then-counts-gt0-clause-step : goal.returns-then-counts-gt0-clause-step
returns-then-counts-gt0-clause-step c =
    let it = counts_here (stands_here c.args.clone c.requires.board c.clone_at-job.ensures.value c.index-standing.ensures)
    c.index-counts.ensures in
    let free = free_here it c.if-counts.false c.if-counts-depth.false c.depth.ensures in
    let busy = busy_here it c.requires.ready (sym c.has_rounds.ensures ∙ c.if-has_rounds.true) (sym c.is_under_way.ensures ∙ c.if-is_under_way.true) in
    of_job it.here _ (none_barred it c.args.worker free busy c.if-counts-gt0.true)

pub round_step-requires-clause-settled : goal.round_step-requires-clause-settled
round_step-requires-clause-settled c =
    let here = stands_here c.args.clone c.requires.board c.clone_at-job.ensures.value c.index-standing.ensures in
    (prepared here c.requires.ready).settled

pub returns-then-is_under_way-clause-step : goal.returns-then-is_under_way-clause-step
returns-then-is_under_way-clause-step c =
    let it = counts_here (stands_here c.args.clone c.requires.board c.clone_at-job.ensures.value c.index-standing.ensures)
    c.index-counts.ensures in
    let free = free_here it c.if-counts.false c.if-counts-depth.false c.depth.ensures in
    let busy = busy_here it c.requires.ready (sym c.has_rounds.ensures ∙ c.if-has_rounds.true) (sym c.is_under_way.ensures ∙ c.if-is_under_way.true) in
    of_job it.here _
    (c.round_step.ensures.step c.args.clone c.clone_at-job.result.now it.here.planned it.here.at busy.rounds c.declines.ensures
    (runs_on it free.runs) (waits_now it c.args.worker free busy)
    ∙ checks_first it c.args.worker free busy c.if-counts-gt0.false)

-- no round of the clone is under way
is_idle : (c : Joined-else-has_rounds)
    → (has_rounds c.clone_at-job.result.now && is_under_way (current_round c.clone_at-job.result.now c.args.board.now.history.items)) ≡ false
is_idle c =
    let it = counts_here (stands_here c.args.clone c.requires.board c.clone_at-job.ensures.value c.index-standing.ensures)
    c.index-counts.ensures in
    let free = free_here it c.if-counts.false c.if-counts-depth.false c.depth.ensures in
    elim c.else-has_rounds.branch [
      | else-has_rounds-via-then-has_rounds+else-is_under_way w ↦
          none_waits it c.args.worker free (sym c.has_rounds.ensures ∙ w.if-has_rounds.true) (prepared it.here c.requires.ready).settled
          (sym w.is_under_way.ensures ∙ w.if-is_under_way.false)
      | else-has_rounds-via-else-has_rounds w ↦ no_rounds it c.args.worker free (sym c.has_rounds.ensures ∙ w.if-has_rounds.false)
    ]

pub returns-then-phase-clause-step : goal.returns-then-phase-clause-step
returns-then-phase-clause-step c =
    let it = counts_here (stands_here c.args.clone c.requires.board c.clone_at-job.ensures.value c.index-standing.ensures)
    c.index-counts.ensures in
    let free = free_here it c.if-counts.false c.if-counts-depth.false c.depth.ensures in
    of_job it.here _
    (none_unopened it c.args.worker free (is_idle (goal.at.returns-then-phase-clause-step c).Joined-else-has_rounds) c.args.phase
    (c.requires.phase c.clone_at-job.result.now it.here.planned) (omega (arith, c.if-phase.true, c.phase.ensures)))

pub next_issue-requires-clause-runs : goal.next_issue-requires-clause-runs
next_issue-requires-clause-runs c =
    let it = counts_here (stands_here c.args.clone c.requires.board c.clone_at-job.ensures.value c.index-standing.ensures)
    c.index-counts.ensures in
    of_job it.here _ (runs_on it c.if-counts.false)

pub returns-clause-step : goal.returns-clause-step
returns-clause-step c =
    let it = counts_here (stands_here c.args.clone c.requires.board c.clone_at-job.ensures.value c.index-standing.ensures)
    c.index-counts.ensures in
    let free = free_here it c.if-counts.false c.if-counts-depth.false c.depth.ensures in
    of_job it.here _
    (c.next_issue.ensures.step c.clone_at-job.result.now c.index-standing.result.now it.here.planned it.here.at
    ∙ issues_next it c.args.worker free (is_idle (goal.at.returns-clause-step c).Joined-else-has_rounds))
