use Rattle.jr_job_options.specs.Options.{AreInRange}
use Rattle.jr_job_notes.proofs.jobs.with_lines.Given as goal

abbrev pub invariant-loop-line : goal.invariant-loop-line
invariant-loop-line l = AreInRange l.all
