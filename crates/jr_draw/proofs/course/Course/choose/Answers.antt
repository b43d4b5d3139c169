use Rattle.std.proofs.Common.{◌≡◌, sym, subst, rules}
use Rattle.jr_model.specs.Draws.{DrawnCells, chosen_cells}
use Rattle.jr_laws_draws.specs.DrawFacts.{CourseRecord, IsSound, DrawnCellsFit}
use Rattle.jr_laws_draws.proofs.DrawnCellsLaws.{drawn_cells_fit}
use Rattle.jr_draw.proofs.course.Course.choose.Goals as goal

pub returns-clause-fits : goal.returns-clause-fits
returns-clause-fits c =
    let job = c.args.self.now.job in
    let done = c.args.self.now.done in
    let choice = chosen_cells job done c.args.direction c.args.size c.args.place in
    let same : record { dir = c.direction-dir.result; first = c.choose-first.result.0; count = c.choose-first.result.1 } ≡ choice = search rules in
    let sound : IsSound job done = subst (λ (r : CourseRecord). IsSound r.job r.done) c.self.view_is c.self.invariant in
    subst (λ (x : DrawnCells). DrawnCellsFit job done x) (sym same) (drawn_cells_fit job done c.args.direction c.args.size c.args.place sound c.requires)
