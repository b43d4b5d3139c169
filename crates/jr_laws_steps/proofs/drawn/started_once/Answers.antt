use Rattle.jr_laws_steps.proofs.OnceLaws.{started_once-law}
use Rattle.jr_laws_steps.proofs.drawn.started_once.Goals as goal

pub returns : goal.returns
returns c = started_once-law
