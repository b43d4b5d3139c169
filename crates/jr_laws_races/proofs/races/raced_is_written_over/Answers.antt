use Rattle.jr_laws_races.proofs.Overwritten.{raced_is_written_over}
use Rattle.jr_laws_races.proofs.races.raced_is_written_over.Goals as goal

pub returns : goal.returns
returns c = raced_is_written_over
