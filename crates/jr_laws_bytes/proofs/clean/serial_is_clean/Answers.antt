use Rattle.jr_laws_bytes.proofs.CleanLaws.{serial_clean}
use Rattle.jr_laws_bytes.proofs.clean.serial_is_clean.Goals as goal

pub returns : goal.returns
returns c = serial_clean
