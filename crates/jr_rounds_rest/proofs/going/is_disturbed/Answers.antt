use Rattle.std.proofs.Common.{sym, ◌∙◌}
use Rattle.jr_model.proofs.ListLemmas.{none_more}
use Rattle.jr_model.proofs.PlaceLemmas.{any_at}
use Rattle.jr_rounds_rest.specs.Left.{disturbs}
use Rattle.jr_rounds_rest.proofs.going.is_disturbed.Goals as goal

pub returns-then-disturbs : goal.returns-then-disturbs
returns-then-disturbs c =
    sym (any_at (disturbs c.args.job.now) c.args.plan.now.clones c.loop-i.i c.clone_at.result.now c.clone_at.ensures.value (sym c.disturbs.ensures ∙ c.if-disturbs.true))

pub loop-i-preserved : goal.loop-i-preserved
loop-i-preserved c =
    none_more (disturbs c.args.job.now) c.args.plan.now.clones c.loop-i.i c.clone_at.result.now c.clone_at.ensures.value (sym c.disturbs.ensures ∙ c.if-disturbs.false) c.loop-i.invariant
