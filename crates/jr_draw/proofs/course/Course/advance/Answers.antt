use Rattle.std.proofs.Common.{ℕ, ◌+◌, ap, sym, subst, ◌∙◌, arith}
use Rattle.jr_model.specs.declared.blocks.Dir.{Dir}
use Rattle.jr_model.specs.Draws.{DrawnCells, PassProgress, by_direction}
use Rattle.jr_draw.specs.Courses.{job_of, progress_of}
use Rattle.jr_laws_draws.specs.DrawFacts.{CourseRecord, IsSound, DrawnCellsFit}
use Rattle.jr_laws_draws.proofs.DrawnCellsLaws.{sound_after}
use Rattle.jr_laws_draws.proofs.DrawLaws.{same_progress}
use Rattle.jr_draw.proofs.course.Course.advance.Goals as goal
use Rattle.jr_draw.proofs.course.Course.advance.Goals.{in-Read, in-Write}

pub invariant_of-self : goal.invariant_of-self
invariant_of-self c =
    let was = c.self.inside in
    let choice : DrawnCells = record { dir = c.choice.inside.dir; first = c.choice.inside.first; count = c.choice.inside.count } in
    let fits : DrawnCellsFit (job_of was) (progress_of was) choice =
    subst (λ (x : DrawnCells). DrawnCellsFit (job_of was) (progress_of was) x) (sym c.choice.view_is)
    (subst (λ (r : CourseRecord). DrawnCellsFit r.job r.done c.args.choice.now) (sym c.self.view_is) c.requires) in
    let after = sound_after (job_of was) (progress_of was) choice c.self.invariant fits in
    let reads : (dir : Dir) → ℕ = λ dir. was.reads + by_direction dir choice.count 0 in
    let writes : (dir : Dir) → ℕ = λ dir. was.writes + by_direction dir 0 choice.count in
    elim c.match-choice.branch [
      | in-Read w ↦ rw w.self-inside-is (subst (λ (p : PassProgress). IsSound (job_of was) p) (same_progress _ _ _ _ _ _ _ _ (omega arith) (sym c.take.ensures) (ap reads w.in-Read.is) (ap writes w.in-Read.is ∙ omega arith)) after)
      | in-Write w ↦ rw w.self-inside-is (subst (λ (p : PassProgress). IsSound (job_of was) p) (same_progress _ _ _ _ _ _ _ _ (omega arith) (sym c.take.ensures) (ap reads w.in-Write.is ∙ omega arith) (ap writes w.in-Write.is)) after)
    ]
