use Rattle.std.proofs.Common.{◌<◌, length, sym, ap, ◌∙◌, arith}
use Rattle.std.proofs.lemmas.List.{take_all}
use Rattle.jr_replay_traces.specs.TraceChecks.{workers_fit}
use Rattle.jr_replay_traces.proofs.TraceLemmas.{counted_more, counted_same, line_written, worker_more}
use Rattle.jr_replay_traces.proofs.traces.trace_text.Goals as goal
use Rattle.jr_replay_traces.proofs.traces.trace_text.Goals.{then-starts, else-starts}

pub loop-event-preserved : goal.loop-event-preserved
loop-event-preserved c =
    let history = c.args.history.now in
    let i = c.loop-event.event-index in
    let within : i < length history = c.loop-event-test.true in
    let written = line_written history i c.loop-event.io _ c.loop-event.text.items c.push_event.new.text.items c.push_text.new.text.items within c.loop-event.invariant.1 c.in_ok-push_event.ensures.value c.in_ok-push_text.ensures c.loop-event.invariant.0 in
    let workers = worker_more history i _ within c.loop-event.invariant.3 c.in_ok-push_event.ensures.fits in
    elim c.if-starts.branch [
      | then-starts w ↦ (
        written,
        counted_more history i c.loop-event.io c.if-starts.io _ c.starts.result within c.starts.ensures w.if-starts.true c.loop-event.invariant.1 w.io-is,
        omega (arith, w.io-is, c.loop-event.invariant.2),
        workers,
      )
      | else-starts w ↦ (
        written,
        counted_same history i c.loop-event.io c.if-starts.io _ c.starts.result within c.starts.ensures w.if-starts.false c.loop-event.invariant.1 w.io-is,
        omega (arith, w.io-is, c.loop-event.invariant.2),
        workers,
      )
    ]

pub returns-clause-fit : goal.returns-clause-fit
returns-clause-fit c =
    sym (ap workers_fit (take_all c.loop-event.event-index c.args.history.now (omega arith))) ∙ c.loop-event.invariant.3
