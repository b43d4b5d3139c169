use Rattle.jr_after.specs.Writes.{writes_of_pass}
use Rattle.jr_after_plans.proofs.WritesFurther.{range_further}
use Rattle.jr_after_plans.proofs.planned.push_clone.Goals as goal

pub loop-pass-preserved : goal.loop-pass-preserved
loop-pass-preserved c =
    range_further (writes_of_pass c.args.job.now) c.loop-pass.pass c.args.writes.now.items c.loop-pass.writes.items c.push_pass.new.writes.items c.loop-pass.invariant c.in_ok-push_pass.ensures
