use Rattle.std.proofs.Common.{rules}
use Rattle.jr_model.proofs.ListLemmas.{map_more}
use Rattle.jr_rounds_rest.specs.Left.{task_of}
use Rattle.jr_rounds_rest.proofs.tasks.first_tasks.Goals as goal

pub loop-i-preserved : goal.loop-i-preserved
loop-i-preserved c =
    let clones = c.args.plan.now.clones in
    let i = c.loop-i.i in
    rw (map_more task_of clones i c.clone_at.result.now c.clone_at.ensures.value, ← c.loop-i.invariant, ← c.task_of.ensures) (search rules)
