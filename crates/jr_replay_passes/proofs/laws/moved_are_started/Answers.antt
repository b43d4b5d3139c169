use Rattle.jr_replay_passes.proofs.LegalMoves.{moved_at_most_started}
use Rattle.jr_replay_passes.proofs.laws.moved_are_started.Goals as goal

pub returns : goal.returns
returns c = moved_at_most_started
