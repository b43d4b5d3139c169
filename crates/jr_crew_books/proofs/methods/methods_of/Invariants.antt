use Rattle.std.proofs.Common.{◌≡◌, map, take}
use Rattle.jr_model.specs.Plan.{SubJob}
use Rattle.jr_crew_books.proofs.methods.methods_of.Given as goal

-- those so far
abbrev pub invariant-loop-clone : goal.invariant-loop-clone
invariant-loop-clone l = l.methods.items ≡ map (λ (job : SubJob). job.method) (take l.clone l.plan.clones)
