use Rattle.jr_laws_steps.proofs.CountLaws.{started_few}
use Rattle.jr_laws_steps.proofs.counts.started_are_few.Goals as goal

pub returns : goal.returns
returns c = started_few
