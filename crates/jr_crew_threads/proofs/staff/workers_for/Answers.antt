use Rattle.std.proofs.Common.{arith}
use Rattle.jr_crew_threads.proofs.Numbering.{mapped_on, numbered_on, one_longer}
use Rattle.jr_crew_threads.proofs.PartLemmas.{less_on}
use Rattle.jr_crew_threads.proofs.staff.workers_for.Goals as goal

pub loop-engine-preserved : goal.loop-engine-preserved
loop-engine-preserved g c = (
  mapped_on (λ worker. worker.0) c.loop-engine.workers.items c.push.new.all.items _ c.loop-engine.yielded c.in_ok-push.ensures.ok c.loop-engine.invariant.0,
  numbered_on (λ worker. worker.1.number) 0 c.loop-engine.workers.items c.push.new.all.items _ c.in_ok-push.ensures.ok c.loop-engine.invariant.1
      (omega (arith, c.in_ok-number.ensures.ok, c.len.ensures)),
  less_on _ _ _ _ _ (one_longer c.loop-engine.workers.items c.push.new.all.items _ c.in_ok-push.ensures.ok) c.loop-engine.invariant.2 c.another.ensures.kept,
)
