use Rattle.jr_laws_races.proofs.Overwritten.{written_over_has_raced}
use Rattle.jr_laws_races.proofs.races.written_over_has_raced.Goals as goal

pub returns : goal.returns
returns c = written_over_has_raced
