use Rattle.jr_model.proofs.SerialLaws.{legal_serial}
use Rattle.jr_model.proofs.laws.serial_is_legal.Goals as goal

pub returns : goal.returns
returns c = legal_serial
