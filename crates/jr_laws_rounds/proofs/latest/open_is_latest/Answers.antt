use Rattle.jr_laws_rounds.proofs.OpenLatest.{open_latest}
use Rattle.jr_laws_rounds.proofs.latest.open_is_latest.Goals as goal

pub returns : goal.returns
returns c = open_latest
