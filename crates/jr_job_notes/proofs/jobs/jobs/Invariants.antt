use Rattle.jr_job_options.specs.Options.{AreInRange}
use Rattle.jr_job_notes.proofs.jobs.jobs.Given as goal

abbrev pub invariant-loop-section : goal.invariant-loop-section
invariant-loop-section l = AreInRange l.globals
