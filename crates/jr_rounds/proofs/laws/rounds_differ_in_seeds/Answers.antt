use Rattle.jr_rounds.proofs.SeedLemmas.{differ_in_seeds}
use Rattle.jr_rounds.proofs.laws.rounds_differ_in_seeds.Goals as goal

pub returns : goal.returns
returns c = differ_in_seeds
