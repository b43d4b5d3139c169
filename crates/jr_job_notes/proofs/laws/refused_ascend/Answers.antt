use Rattle.jr_job_notes.proofs.OrderLemmas.{ascending}
use Rattle.jr_job_notes.proofs.laws.refused_ascend.Goals as goal

pub returns : goal.returns
returns c = ascending
