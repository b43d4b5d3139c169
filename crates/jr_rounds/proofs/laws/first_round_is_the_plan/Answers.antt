use Rattle.jr_rounds.proofs.SeedLemmas.{first_is_the_plan}
use Rattle.jr_rounds.proofs.laws.first_round_is_the_plan.Goals as goal

pub returns : goal.returns
returns c = first_is_the_plan
