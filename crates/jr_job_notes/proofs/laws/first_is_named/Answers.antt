use Rattle.jr_job_notes.proofs.FirstLemmas.{first_named}
use Rattle.jr_job_notes.proofs.laws.first_is_named.Goals as goal

pub returns : goal.returns
returns c = first_named
