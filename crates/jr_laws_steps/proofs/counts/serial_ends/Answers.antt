use Rattle.jr_laws_steps.proofs.CountLaws.{serial_stops_all}
use Rattle.jr_laws_steps.proofs.counts.serial_ends.Goals as goal

pub returns : goal.returns
returns c = serial_stops_all
