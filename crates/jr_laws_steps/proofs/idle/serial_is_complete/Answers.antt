use Rattle.jr_laws_steps.proofs.CountLaws.{serial_stops_all}
use Rattle.jr_laws_steps.proofs.DoneLaws.{serial_complete}
use Rattle.jr_laws_steps.proofs.idle.serial_is_complete.Goals as goal

pub returns : goal.returns
returns c plan planned = serial_complete plan planned (serial_stops_all plan planned)
