use Rattle.std.proofs.Common.{◌≡◌, List, Some, None, refl, sym, ◌∙◌, ap, subst}
use Rattle.std.specs.Prelude.{Option, IfOk, slice_get}
use Rattle.std.proofs.lemmas.Option.{slice_get_past, slice_get_read}
use Rattle.jr_model.specs.Legal.{step_of_clone}
use Rattle.jr_model.specs.Plan.{SubJob}
use Rattle.jr_replay.proofs.answers.step_at.Goals as goal

pub returns-in-Some : goal.returns-in-Some
returns-in-Some c =
    let plan = c.args.work.now in
    let write = c.args.write.now in
    let found : slice_get c.clones.result.now write.clone ≡ Some c.in-Some.clone.now =
    slice_get_read c.clones.result.now _ write.clone c.in-Some.clone.now refl c.in-Some.ensures.lookup.3.0 c.in-Some.ensures.lookup.1 in
    let there : slice_get plan.clones write.clone ≡ Some c.in-Some.clone.now =
    ap (λ (jobs : List SubJob). slice_get jobs write.clone) (sym c.clones.ensures) ∙ found in
    subst (λ (job : Option SubJob). IfOk c.step_of_clone.result (λ step. step ≡ step_of_clone plan c.args.past.now c.args.worker write job))
    (sym there) c.step_of_clone.ensures

pub returns-in-None : goal.returns-in-None
returns-in-None c =
    let plan = c.args.work.now in
    let write = c.args.write.now in
    let none : slice_get plan.clones write.clone ≡ None =
    ap (λ (jobs : List SubJob). slice_get jobs write.clone) (sym c.clones.ensures)
    ∙ slice_get_past c.clones.result.now write.clone c.in-None.ensures.lookup.3 in
    ap (λ (job : Option SubJob). step_of_clone plan c.args.past.now c.args.worker write job) (sym none)
