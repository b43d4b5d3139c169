use Rattle.jr_replay_traces.proofs.Accepted.{accepted_is_a_trace}
use Rattle.jr_replay_traces.proofs.laws.accepted_is_a_trace.Goals as goal

pub returns : goal.returns
returns c = accepted_is_a_trace
