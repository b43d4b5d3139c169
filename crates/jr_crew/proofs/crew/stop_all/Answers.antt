use Rattle.jr_crew.proofs.Stopping.{one_more_stop}
use Rattle.jr_crew.proofs.crew.stop_all.Goals as goal

pub loop-told-preserved : goal.loop-told-preserved
loop-told-preserved g c = one_more_stop c.loop-told.told _ _ _ c.loop-told.invariant c.stop.ensures
