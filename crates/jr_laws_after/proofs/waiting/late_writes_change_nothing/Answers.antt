use Rattle.jr_laws_after.proofs.Late.{late_writes_change_nothing}
use Rattle.jr_laws_after.proofs.waiting.late_writes_change_nothing.Goals as goal

pub returns : goal.returns
returns c = late_writes_change_nothing
