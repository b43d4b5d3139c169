use Rattle.std.proofs.Common.{◌≡◌, map, take}
use Rattle.jr_rounds_rest.specs.Left.{task_of}
use Rattle.jr_rounds_rest.proofs.tasks.first_tasks.Given as goal

abbrev pub invariant-loop-i : goal.invariant-loop-i
invariant-loop-i l = l.tasks.items ≡ map task_of (take l.i l.plan.clones)
