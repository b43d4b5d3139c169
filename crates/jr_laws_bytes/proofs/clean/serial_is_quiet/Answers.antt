use Rattle.jr_laws_bytes.proofs.QuietSerial.{serial_quiet}
use Rattle.jr_laws_bytes.proofs.clean.serial_is_quiet.Goals as goal

pub returns : goal.returns
returns c = serial_quiet
