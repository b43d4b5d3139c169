use Rattle.jr_job_options.specs.Options.{AreInRange}
use Rattle.jr_job_adapt.proofs.jobs.drafts.Given as goal

abbrev pub invariant-loop-i : goal.invariant-loop-i
invariant-loop-i g l = AreInRange l.globals
