use Rattle.std.proofs.Common.{◌≡◌, drop}
use Rattle.std.specs.Prelude.{fold}
use Rattle.jr_rounds_rest.specs.NextRound.{drafted, with_task}
use Rattle.jr_rounds_rest.proofs.drafting.drafted.Given as goal

abbrev pub invariant-loop-task : goal.invariant-loop-task
invariant-loop-task l = fold (with_task l.plan l.by) l.so_far (drop l.task-index l.tasks) ≡ drafted l.plan l.by l.tasks
