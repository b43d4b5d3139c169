use Rattle.std.proofs.Common.{◌≡◌, drop}
use Rattle.jr_plan.specs.Files.{are_apart}
use Rattle.jr_plan.proofs.plans.are_apart.Given as goal

-- no clone so far shares its file with a later one, so the others decide
abbrev pub invariant-loop-i : goal.invariant-loop-i
invariant-loop-i l = are_apart (drop l.i l.clones) ≡ are_apart l.clones
