use Rattle.std.proofs.Common.{◌≡◌, drop}
use Rattle.jr_after_plans.specs.Taken.{fault_among}
use Rattle.jr_after_plans.proofs.taken.after_fault.Given as goal

-- it is that of one of the clones still to come
abbrev pub invariant-loop-i : goal.invariant-loop-i
invariant-loop-i l = fault_among l.plan.clones (drop l.i l.plan.clones) ≡ fault_among l.plan.clones l.plan.clones
