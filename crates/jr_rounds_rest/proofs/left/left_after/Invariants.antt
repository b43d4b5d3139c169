use Rattle.std.proofs.Common.{◌≡◌, ◌++◌, drop}
use Rattle.jr_rounds_rest.specs.Left.{left_from, tasks_left}
use Rattle.jr_rounds_rest.proofs.left.left_after.Given as goal

-- what is left so far, and of the other clones
abbrev pub invariant-loop-i : goal.invariant-loop-i
invariant-loop-i l = l.left.items ++ left_from l.plan l.round l.ledger l.i (drop l.i l.tasks) ≡ tasks_left l.plan l.round l.tasks l.ledger
