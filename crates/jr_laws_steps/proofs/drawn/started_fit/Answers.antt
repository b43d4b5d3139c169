use Rattle.jr_laws_steps.proofs.DrawnLaws.{started_fit-law}
use Rattle.jr_laws_steps.proofs.drawn.started_fit.Goals as goal

pub returns : goal.returns
returns c = started_fit-law
