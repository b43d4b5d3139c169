use Rattle.jr_laws_steps.proofs.CountLaws.{taken_all}
use Rattle.jr_laws_steps.proofs.counts.taken_is_all.Goals as goal

pub returns : goal.returns
returns c = taken_all
