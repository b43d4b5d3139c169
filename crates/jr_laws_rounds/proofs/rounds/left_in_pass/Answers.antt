use Rattle.jr_laws_rounds.proofs.CurrentLaws.{left_in_pass-law}
use Rattle.jr_laws_rounds.proofs.rounds.left_in_pass.Goals as goal

pub returns : goal.returns
returns c = left_in_pass-law
