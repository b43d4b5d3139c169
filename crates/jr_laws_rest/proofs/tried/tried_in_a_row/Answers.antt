use Rattle.jr_laws_rest.proofs.TriedLaws.{tried_in_a_row-law}
use Rattle.jr_laws_rest.proofs.tried.tried_in_a_row.Goals as goal

pub returns : goal.returns
returns c = tried_in_a_row-law
