use Rattle.jr_plan.proofs.ListLemmas.{flat_map-further}
use Rattle.jr_after.specs.Writes.{writes_of, writes_of_clone}
use Rattle.jr_after_plans.proofs.planned.all_writes.Goals as goal

pub loop-i-preserved : goal.loop-i-preserved
loop-i-preserved c =
    flat_map-further writes_of_clone c.args.plan.now.clones c.loop-i.i c.clone_at.result.now c.loop-i.writes.items c.push_clone.new.writes.items (writes_of c.args.plan.now) c.clone_at.ensures.value c.loop-i.invariant c.in_ok-push_clone.ensures
