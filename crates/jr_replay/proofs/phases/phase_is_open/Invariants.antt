use Rattle.std.proofs.Common.{◌≡◌, true, take, ◌||◌}
use Rattle.std.specs.Prelude.{nat_le}
use Rattle.std.specs.List.{list_all}
use Rattle.jr_model.specs.Legal.{is_at_rest}
use Rattle.jr_model.specs.Plan.{SubJob}
use Rattle.jr_replay.proofs.phases.phase_is_open.Given as goal

abbrev pub invariant-loop-i : goal.invariant-loop-i
invariant-loop-i l =
    list_all (λ (other : SubJob). nat_le l.job.phase other.phase || is_at_rest l.course.history other) (take l.i l.plan.clones) ≡ true
