use Rattle.std.proofs.Common.{◌≡◌, ℕ, List, ap, ◌∙◌}
use Rattle.std.specs.Prelude.{Option, slice_get}
use Rattle.jr_model.specs.declared.events.Event.{Event}
use Rattle.jr_model.specs.declared.workloads.Draw.{Draw}
use Rattle.jr_model.specs.Legal.{step_of_draw}
use Rattle.jr_model.specs.Plan.{Plan, SubJob}
use Rattle.jr_model.specs.Rounds.{Pass, pass_of}
use Rattle.jr_replay.proofs.PassLemmas.{pass_at}
use Rattle.jr_replay.proofs.answers.step_of_clone.Goals as goal

-- the step of the draw of a number is that of the draw there
step_at_number : (plan : Plan) (history : List Event) (worker k : ℕ) (pass same : Pass) (draw : Option Draw) (step : Option Event) → step ≡ step_of_draw plan history worker pass draw → draw ≡ slice_get pass.draws k → pass ≡ same → step ≡ step_of_draw plan history worker same (slice_get same.draws k)
step_at_number plan history worker k pass same draw step is at equal =
    is
    ∙ ap (step_of_draw plan history worker pass) at
    ∙ ap (λ (p : Pass). step_of_draw plan history worker p (slice_get p.draws k)) equal

pub step_of_draw-requires : goal.step_of_draw-requires
step_of_draw-requires c =
    ap (λ (p : Pass). p.job)
    (pass_at c.args.clone.now c.passes.result.now c.args.write.now.pass c.in-Some.pass.now c.passes.ensures c.in-Some.ensures.lookup.0 c.in-Some.ensures.lookup.1)

pub returns-in-Some : goal.returns-in-Some
returns-in-Some c =
    step_at_number c.args.work.now c.args.past.now c.args.worker c.args.write.now.number c.in-Some.pass.now (pass_of c.args.clone.now c.args.write.now.pass) c.draw_at-draw.result c.step_of_draw.result c.step_of_draw.ensures c.draw_at-draw.ensures
    (pass_at c.args.clone.now c.passes.result.now c.args.write.now.pass c.in-Some.pass.now c.passes.ensures c.in-Some.ensures.lookup.0 c.in-Some.ensures.lookup.1)

pub returns : goal.returns
returns c =
    step_at_number c.args.work.now c.args.past.now c.args.worker c.args.write.now.number c.in_ok-pass.pass (pass_of c.args.clone.now c.args.write.now.pass) c.draw_at-draw-2.result c.step_of_draw-2.result c.step_of_draw-2.ensures c.draw_at-draw-2.ensures (c.in_ok-pass.ensures ∙ ap (λ (job : SubJob). pass_of job c.args.write.now.pass) c.job.ensures)
