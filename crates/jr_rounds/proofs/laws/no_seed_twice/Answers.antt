use Rattle.jr_rounds.proofs.SeedLemmas.{no_seed_twice}
use Rattle.jr_rounds.proofs.laws.no_seed_twice.Goals as goal

pub returns : goal.returns
returns c = no_seed_twice
