use Rattle.jr_laws_bytes.proofs.CleanLaws.{serial_good}
use Rattle.jr_laws_bytes.proofs.clean.serial_is_good.Goals as goal

pub returns : goal.returns
returns c = serial_good
