use Rattle.jr_laws_bytes.proofs.Plays.{last_writes_kept}
use Rattle.jr_laws_bytes.proofs.checks.keeps_last_writes.Goals as goal

pub returns : goal.returns
returns c = last_writes_kept
