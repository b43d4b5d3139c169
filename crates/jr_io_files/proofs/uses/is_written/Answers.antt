use Rattle.std.proofs.Common.{sym, ◌∙◌}
use Rattle.jr_model.proofs.ListLemmas.{none_more}
use Rattle.jr_model.proofs.PlaceLemmas.{any_at}
use Rattle.jr_io_files.specs.Uses.{writes_file}
use Rattle.jr_io_files.proofs.uses.is_written.Goals as goal

pub returns-then-writes_file : goal.returns-then-writes_file
returns-then-writes_file c =
    sym (any_at (writes_file c.args.file) c.args.plan.now.clones c.loop-i.i c.clone_at.result.now c.clone_at.ensures.value (sym c.writes_file.ensures ∙ c.if-writes_file.true))

pub loop-i-preserved : goal.loop-i-preserved
loop-i-preserved c =
    none_more (writes_file c.args.file) c.args.plan.now.clones c.loop-i.i c.clone_at.result.now c.clone_at.ensures.value (sym c.writes_file.ensures ∙ c.if-writes_file.false) c.loop-i.invariant
