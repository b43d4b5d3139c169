use Rattle.std.proofs.Common.{◌≡◌, drop}
use Rattle.jr_after_plans.specs.Taken.{first_writer}
use Rattle.jr_after_plans.proofs.taken.is_on_grid.Given as goal

-- the first one is among those still to come
abbrev pub invariant-loop-i : goal.invariant-loop-i
invariant-loop-i l = first_writer (drop l.i l.plan.clones) l.job.file ≡ first_writer l.plan.clones l.job.file
