use Rattle.std.proofs.Common.{◌≡◌, true, take}
use Rattle.std.specs.List.{list_all}
use Rattle.jr_model.specs.Legal.{is_at_rest}
use Rattle.jr_replay.proofs.phases.is_whole_run.Given as goal

abbrev pub invariant-loop-i : goal.invariant-loop-i
invariant-loop-i l = list_all (is_at_rest l.course.history) (take l.i l.plan.clones) ≡ true
