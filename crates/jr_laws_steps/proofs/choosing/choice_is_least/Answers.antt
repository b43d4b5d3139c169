use Rattle.jr_laws_steps.proofs.ChoosingLaws.{chosen_least}
use Rattle.jr_laws_steps.proofs.choosing.choice_is_least.Goals as goal

pub returns : goal.returns
returns c = chosen_least
