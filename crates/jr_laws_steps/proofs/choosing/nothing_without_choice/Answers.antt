use Rattle.jr_laws_steps.proofs.ChoosingLaws.{nothing_without}
use Rattle.jr_laws_steps.proofs.choosing.nothing_without_choice.Goals as goal

pub returns : goal.returns
returns c = nothing_without
