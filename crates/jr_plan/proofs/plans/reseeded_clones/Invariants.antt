use Rattle.std.proofs.Common.{◌≡◌, map, take}
use Rattle.jr_plan.specs.Seeds.{moved_seed}
use Rattle.jr_plan.proofs.plans.reseeded_clones.Given as goal

abbrev pub invariant-loop-job : goal.invariant-loop-job
invariant-loop-job l = l.made.items ≡ map (moved_seed l.by) (take l.job-index l.clones)
