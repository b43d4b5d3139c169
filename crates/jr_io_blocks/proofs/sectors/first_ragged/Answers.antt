use Rattle.std.proofs.Common.{sym, ◌∙◌}
use Rattle.jr_model.proofs.ListLemmas.{none_more}
use Rattle.jr_model.proofs.PlaceLemmas.{any_at}
use Rattle.jr_io_blocks.specs.Sectors.{is_ragged}
use Rattle.jr_io_blocks.proofs.sectors.first_ragged.Goals as goal

pub returns-then-is_ragged-clause-some : goal.returns-then-is_ragged-clause-some
returns-then-is_ragged-clause-some c =
    sym (any_at (is_ragged c.args.file c.args.sector) c.args.plan.now.clones c.loop-i.i c.clone_at.result.now c.clone_at.ensures.value (sym c.is_ragged.ensures ∙ c.if-is_ragged.true))

pub loop-i-preserved : goal.loop-i-preserved
loop-i-preserved c =
    none_more (is_ragged c.args.file c.args.sector) c.args.plan.now.clones c.loop-i.i c.clone_at.result.now c.clone_at.ensures.value (sym c.is_ragged.ensures ∙ c.if-is_ragged.false) c.loop-i.invariant
