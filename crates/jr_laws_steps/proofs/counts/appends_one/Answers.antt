use Rattle.jr_laws_steps.proofs.CountLaws.{appends_same}
use Rattle.jr_laws_steps.proofs.counts.appends_one.Goals as goal

pub returns : goal.returns
returns c = appends_same
