use Rattle.std.proofs.Common.{◌≡◌, drop}
use Rattle.jr_job_options.specs.Shapes.{least_from, least_size}
use Rattle.jr_job_options.proofs.shapes.least_size.Given as goal

-- the least so far, with the others
abbrev pub invariant-loop-size : goal.invariant-loop-size
invariant-loop-size l = least_from l.least (drop l.size-index l.size-items) ≡ least_size l.split
