use Rattle.jr_replay_traces.proofs.RoundTrip.{trace_is_accepted}
use Rattle.jr_replay_traces.proofs.laws.trace_is_accepted.Goals as goal

pub returns : goal.returns
returns c = trace_is_accepted
