use Rattle.std.proofs.Common.{◌≡◌, ◌+◌, ◌≤◌, List, [], ◌∷◌, ◌++◌, length, Ok, true, sym, subst, ap, ◌∙◌, arith}
use Rattle.std.specs.List.{slice_split}
use Rattle.std.proofs.lemmas.Result.{err_from_is_err_and}
use Rattle.jr_model.specs.declared.events.Event.{Event}
use Rattle.jr_model.specs.History.{started}
use Rattle.jr_model.specs.Legal.{may_happen}
use Rattle.jr_replay_traces.specs.TraceChecks.{history_in, is_newline, line_event, lines_read}
use Rattle.jr_replay_traces.proofs.ReadingLemmas.{legal_more, line_is_read, read_more, read_refused}
use Rattle.jr_replay_traces.proofs.checks.course_in.Goals as goal

pub returns-in_err-event-clause-err : goal.returns-in_err-event-clause-err
returns-in_err-event-clause-err c =
    let history = c.loop-rest.course.history in
    let place : c.len.result + 1 ≡ length history + 1 =
    ap (λ (n : _). n + 1) c.len.ensures.value in
    let fault = err_from_is_err_and c.from_residual-in_err-event.result c.from_residual-in_err-event.ensures.1 in
    let whole = read_refused c.args.plan.now history (c.len.result + 1) c.in-Some.line.now c.loop-rest.rest.now c.in-Some.after.now (history_in c.args.plan.now c.args.text.now) place c.in-Some.ensures.0 c.loop-rest.invariant.0 c.in_err-event.field-0.0 c.in_err-event.ensures.err in
    rw (fault.1, fault.2) whole

pub loop-rest-init : goal.loop-rest-init
loop-rest-init c =
    let plan = c.args.plan.now in
    let none : c.in_ok-course.course.history ≡ [] = c.in_ok-course.ensures.empty in
    let few : 0 ≤ 4294967296 = omega arith in (
      ap (λ (h : List Event). lines_read plan h (length h + 1) (slice_split is_newline c.args.text.now)) none,
      c.in_ok-course.ensures.course,
      subst (λ (h : List Event). length (started h) ≤ 4294967296) (sym none) few,
    )

pub followed_by-requires-clause-may : goal.followed_by-requires-clause-may
followed_by-requires-clause-may c =
    let plan = c.args.plan.now in
    let history = c.loop-rest.course.history in
    let e = c.in_ok-event.event in
    subst (λ (h : List Event). may_happen plan h e ≡ true) (sym c.in_ok-event.ensures.history)
    (line_is_read plan history (c.len.result + 1) c.in-Some.line.now e c.in_ok-event.ensures.ok).may

pub loop-rest-preserved : goal.loop-rest-preserved
loop-rest-preserved c =
    let plan = c.args.plan.now in
    let history = c.loop-rest.course.history in
    let place : c.len.result + 1 ≡ length history + 1 =
    ap (λ (n : _). n + 1) c.len.ensures.value in
    let e = c.in_ok-event.event in
    let longer = c.in_ok-course-2.course.history in
    let read : line_event plan history (c.len.result + 1) c.in-Some.line.now ≡ Ok e = c.in_ok-event.ensures.ok in
    let grown : longer ≡ history ++ e ∷ [] =
    c.in_ok-course-2.ensures.more ∙ ap (λ (h : List Event). h ++ e ∷ []) c.in_ok-event.ensures.history in
    let more = read_more plan history (c.len.result + 1) c.in-Some.line.now c.loop-rest.rest.now c.in-Some.after.now (history_in plan c.args.text.now) place c.in-Some.ensures.0 c.loop-rest.invariant.0 e longer read grown in
    let legal = legal_more plan history longer e (line_is_read plan history (c.len.result + 1) c.in-Some.line.now e read) grown c.loop-rest.invariant.1.legal c.loop-rest.invariant.2 in
    (more, c.in_ok-course-2.ensures.course, legal.1)
