use Rattle.jr_replay_traces.proofs.RoundTrip.{text_is_checked}
use Rattle.jr_stats.proofs.traces.trace.Goals as goal

pub returns-clause-checked : goal.returns-clause-checked
returns-clause-checked c =
    text_is_checked c.args.desk.now.plan c.plan.result.now c.args.desk.now.history c.history.result.now c.trace_text.result
    c.plan.ensures c.history.ensures.value c.facts.ensures c.history.ensures.legal c.trace_text.ensures.value c.trace_text.ensures.fit
