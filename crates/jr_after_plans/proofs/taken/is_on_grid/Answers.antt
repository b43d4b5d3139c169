use Rattle.std.proofs.Common.{◌≡◌, ap, sym, ◌∙◌}
use Rattle.std.specs.Prelude.{Some}
use Rattle.jr_after_plans.specs.Taken.{first_writer, is_on_grid, writes_to}
use Rattle.jr_after_plans.proofs.Finding.{found_here, found_later}
use Rattle.jr_after_plans.proofs.taken.is_on_grid.Goals as goal

pub returns-then-writes_to : goal.returns-then-writes_to
returns-then-writes_to c =
    let clones = c.args.plan.now.clones in
    let file = c.args.job.now.file in
    let first : first_writer clones file ≡ Some c.clone_at-first.result.now =
    sym c.loop-i.invariant ∙ found_here (writes_to file) clones c.loop-i.i c.clone_at-first.result.now c.clone_at-first.ensures.value (ap (λ f. writes_to f c.clone_at-first.result.now) (sym c.file.ensures) ∙ sym c.writes_to.ensures ∙ c.if-writes_to.true) in
    c.has_same_grid.ensures ∙ sym (ap (λ found. is_on_grid found c.args.job.now) first)

pub loop-i-preserved : goal.loop-i-preserved
loop-i-preserved c =
    let clones = c.args.plan.now.clones in
    let file = c.args.job.now.file in
    sym (found_later (writes_to file) clones c.loop-i.i c.clone_at-first.result.now c.clone_at-first.ensures.value (ap (λ f. writes_to f c.clone_at-first.result.now) (sym c.file.ensures) ∙ sym c.writes_to.ensures ∙ c.if-writes_to.false))
    ∙ c.loop-i.invariant
