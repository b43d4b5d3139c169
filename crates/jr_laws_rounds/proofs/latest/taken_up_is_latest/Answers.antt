use Rattle.jr_laws_rounds.proofs.OpenLatest.{taken_up_latest}
use Rattle.jr_laws_rounds.proofs.latest.taken_up_is_latest.Goals as goal

pub returns : goal.returns
returns c = taken_up_latest
