use Rattle.jr_laws_rounds.proofs.KeptLaws.{kept-law}
use Rattle.jr_laws_rounds.proofs.rounds.kept_is_current.Goals as goal

pub returns : goal.returns
returns c = kept-law
