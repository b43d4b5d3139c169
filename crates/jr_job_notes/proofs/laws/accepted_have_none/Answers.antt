use Rattle.jr_job_notes.proofs.FirstLemmas.{none_refused}
use Rattle.jr_job_notes.proofs.laws.accepted_have_none.Goals as goal

pub returns : goal.returns
returns c = none_refused
