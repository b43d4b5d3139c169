use Rattle.jr_laws_quiet.proofs.quiet.last_is_latest.Goals as goal
use Rattle.jr_laws_quiet.proofs.LastWrites.{last_is_issued}

pub returns : goal.returns
returns c = last_is_issued
