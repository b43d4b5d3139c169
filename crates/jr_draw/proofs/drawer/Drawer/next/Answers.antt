use Rattle.std.proofs.Common.{◌*◌, sym, ◌∙◌}
use Rattle.jr_laws_draws.proofs.DrawLaws.{draws_from-step, four_words}
use Rattle.jr_draw.proofs.drawer.Drawer.next.Goals as goal

pub returns-clause-draws : goal.returns-clause-draws
returns-clause-draws g c = λ n.
    let course = c.args.self.now.course in
    let after = c.draw.new.self in
    let upcoming = g.W.WordSource.upcoming in
    let words = four_words upcoming c.args.self.now.source c.next-direction.new.self c.next-size.new.self c.next-place.new.self c.next-seed.new.self c.next-direction.result c.next-size.result c.next-place.result c.next-seed.result c.next-direction.ensures c.next-size.ensures c.next-place.ensures c.next-seed.ensures n in
    draws_from-step course.job after.job course.done after.done c.next-direction.result c.next-size.result c.next-place.result c.next-seed.result _ (upcoming c.next-seed.new.self (4 * n)) c.draw.result words (sym c.is_over.ensures ∙ c.if-is_over.false) c.draw.ensures.drawn c.draw.ensures.job c.draw.ensures.done
