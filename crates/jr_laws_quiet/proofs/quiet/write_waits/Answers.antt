use Rattle.jr_laws_quiet.proofs.quiet.write_waits.Goals as goal
use Rattle.jr_laws_quiet.proofs.LastWrites.{waits_for_overlapped}

pub returns : goal.returns
returns c = waits_for_overlapped
