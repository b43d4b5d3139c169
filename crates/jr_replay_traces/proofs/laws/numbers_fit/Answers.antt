use Rattle.jr_replay_traces.proofs.Numbers.{numbers_fit}
use Rattle.jr_replay_traces.proofs.laws.numbers_fit.Goals as goal

pub returns : goal.returns
returns c = numbers_fit
