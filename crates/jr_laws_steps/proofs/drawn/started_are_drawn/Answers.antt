use Rattle.jr_laws_steps.proofs.DrawnLaws.{started_are_drawn-law}
use Rattle.jr_laws_steps.proofs.drawn.started_are_drawn.Goals as goal

pub returns : goal.returns
returns c = started_are_drawn-law
