use Rattle.std.proofs.Common.{◌≡◌, ◌++◌, ◌≤◌, length, take, drop, true}
use Rattle.jr_model.specs.History.{started}
use Rattle.jr_replay_traces.specs.TraceChecks.{workers_fit}
use Rattle.jr_replay_traces.specs.Traces.{lines_after, trace_of}
use Rattle.jr_replay_traces.proofs.traces.trace_text.Given as goal

-- what is written, and the lines of what is left, are the trace of all; the workers of what is written are small
abbrev pub invariant-loop-event : goal.invariant-loop-event
invariant-loop-event l =
    (l.text.items ++ lines_after (take l.event-index l.history) (drop l.event-index l.history) ≡ trace_of l.history)
    × (l.io ≡ length (started (take l.event-index l.history)))
    × (l.io ≤ l.event-index)
    × (workers_fit (take l.event-index l.history) ≡ true)
