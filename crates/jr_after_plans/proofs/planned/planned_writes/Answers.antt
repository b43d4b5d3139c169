use Rattle.std.proofs.lemmas.Result.{IfOk-weaker}
use Rattle.std.proofs.lemmas.List.Elements.{All-same}
use Rattle.jr_after.specs.Writes.{writes_of}
use Rattle.jr_after_plans.specs.Fits.{CanBeWritten}
use Rattle.jr_after_plans.proofs.Fitting.{writes_fit}
use Rattle.jr_after_plans.proofs.planned.planned_writes.Goals as goal

pub returns-clause-fit : goal.returns-clause-fit
returns-clause-fit c = IfOk-weaker c.all_writes.result _ _ (λ writes is. All-same CanBeWritten writes.items (writes_of c.args.plan.now) is (writes_fit c.args.plan.now c.facts.ensures)) c.all_writes.ensures
