use Rattle.std.proofs.Common.{sym, ap, arith}
use Rattle.std.specs.Prelude.{Option}
use Rattle.std.proofs.lemmas.Option.{slice_get_past}
use Rattle.jr_model.specs.Legal.{step_of_clone}
use Rattle.jr_model.specs.Plan.{SubJob}
use Rattle.jr_replay.proofs.phases.legal_step_at.Goals as goal

pub returns-then-clone-clones-clause-step : goal.returns-then-clone-clones-clause-step
returns-then-clone-clones-clause-step c =
    let plan = c.args.plan.now in
    let write = c.args.write.now in
    ap (λ (job : Option SubJob). step_of_clone plan c.args.course.now.history c.args.worker write job)
    (sym (slice_get_past plan.clones write.clone (omega (arith, c.clones.ensures.value))))
