use Rattle.std.proofs.Common.{◌≡◌, ◌-◌, ◌<◌, ◌++◌, List, filter_map, ap, ◌∙◌, arith}
use Rattle.jr_draw.specs.Drawing.{draws_left}
use Rattle.jr_draw.proofs.WordLaws.{none_of_no_words}
use Rattle.jr_model.specs.declared.workloads.Draw.{Draw}
use Rattle.jr_model.specs.Words.{words_from}
use Rattle.jr_after.specs.Writes.{write_of_draw}
use Rattle.jr_after_plans.proofs.WritesFurther.{given_all, given_more, none_left}
use Rattle.jr_after_plans.proofs.planned.push_pass.Goals as goal

pub loop-init : goal.loop-init
loop-init c =
    let is_write = write_of_draw c.args.job.now c.args.pass in
    let whole = c.in_ok-drawer.ensures.whole (c.args.job.now.cells - 0) (omega arith) in
    ap (λ (draws : List Draw). c.args.writes.now.items ++ filter_map is_write draws) whole

pub returns-in-None : goal.returns-in-None
returns-in-None c =
    let n = c.args.job.now.cells - c.loop.counter in
    let some : 0 < n = omega (arith, c.loop-test.true, c.cells-end.ensures) in
    given_all (write_of_draw c.args.job.now c.args.pass) c.loop.writes.items (draws_left words_from c.loop.drawer n) _ c.loop.invariant
    (none_left (draws_left words_from c.loop.drawer) n some c.in-None.ensures.draws)

pub loop-preserved : goal.loop-preserved
loop-preserved c =
    given_more (write_of_draw c.args.job.now c.args.pass) (draws_left words_from c.loop.drawer) (draws_left words_from c.next.new.self) c.args.job.now.cells c.loop.counter c.in-Some.draw c.loop.writes.items c.push_draw.new.writes.items _ (omega (arith, c.loop-test.true, c.cells-end.ensures)) c.in-Some.ensures.draws c.in_ok-push_draw-in-Some.ensures c.loop.invariant

pub returns : goal.returns
returns c =
    let left : _ = draws_left words_from c.loop.drawer in
    let none : c.args.job.now.cells - c.loop.counter ≡ 0 = omega (arith, c.loop-test.false, c.cells-end.ensures) in
    given_all (write_of_draw c.args.job.now c.args.pass) c.loop.writes.items (draws_left words_from c.loop.drawer (c.args.job.now.cells - c.loop.counter)) _ c.loop.invariant
    (ap (draws_left words_from c.loop.drawer) none ∙ none_of_no_words c.loop.drawer)
