use Rattle.std.proofs.Common.{ap, ◌∙◌, ◌*◌}
use Rattle.jr_model.specs.Draws.{PassProgress, draws_from, fresh_progress}
use Rattle.jr_model.specs.Plan.{SubJob}
use Rattle.jr_laws_draws.specs.DrawFacts.{part_of}
use Rattle.jr_laws_draws.proofs.DrawLaws.{draws_from-part}
use Rattle.jr_laws_draws.proofs.TheLaw.{drawable_of, pass_law}
use Rattle.jr_draw.proofs.drawer.Drawer.new.Goals as goal

pub returns-clause-draws : goal.returns-clause-draws
returns-clause-draws g c = λ n.
    let words = g.W.WordSource.upcoming c.args.source (4 * n) in
    let job = c.args.job.now in
    ap (λ (j : SubJob). draws_from j c.in_ok-course.course.done words) c.in_ok-course.ensures.job
    ∙ ap (λ (done : PassProgress). draws_from (part_of job) done words) c.in_ok-course.ensures.done
    ∙ draws_from-part job (fresh_progress job) words

pub returns-clause-law : goal.returns-clause-law
returns-clause-law g c = pass_law c.args.job.now (drawable_of c.args.job.now c.facts.ensures)

pub returns-in_err-course-clause-law : goal.returns-in_err-course-clause-law
returns-in_err-course-clause-law g c =
    pass_law c.args.job.now (drawable_of c.args.job.now c.facts.ensures)
