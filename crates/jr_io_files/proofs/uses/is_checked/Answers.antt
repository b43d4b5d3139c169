use Rattle.std.proofs.Common.{sym, ◌∙◌}
use Rattle.jr_model.proofs.ListLemmas.{none_more}
use Rattle.jr_model.proofs.PlaceLemmas.{any_at}
use Rattle.jr_io_files.specs.Uses.{checks_file}
use Rattle.jr_io_files.proofs.uses.is_checked.Goals as goal

pub returns-then-checks_file : goal.returns-then-checks_file
returns-then-checks_file c =
    sym (any_at (checks_file c.args.file) c.args.plan.now.clones c.loop-i.i c.clone_at.result.now c.clone_at.ensures.value (sym c.checks_file.ensures ∙ c.if-checks_file.true))

pub loop-i-preserved : goal.loop-i-preserved
loop-i-preserved c =
    none_more (checks_file c.args.file) c.args.plan.now.clones c.loop-i.i c.clone_at.result.now c.clone_at.ensures.value (sym c.checks_file.ensures ∙ c.if-checks_file.false) c.loop-i.invariant
