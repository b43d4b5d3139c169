use Rattle.jr_laws_bytes.proofs.Verdicts.{bad_exactly}
use Rattle.jr_laws_bytes.proofs.checks.miscompares_exactly.Goals as goal

pub returns : goal.returns
returns c = bad_exactly
