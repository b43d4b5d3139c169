use Rattle.std.proofs.Common.{[]}
use Rattle.jr_model.proofs.LegalLaws.{legal_front}
use Rattle.jr_model.proofs.laws.front_is_legal.Goals as goal

pub returns : goal.returns
returns c plan front rest h = legal_front plan [] front rest h
