-- No clone before this one does, or this one does.
use Rattle.std.proofs.Common.{sym, ◌∙◌}
use Rattle.jr_model.proofs.PlaceLemmas.{any_at}
use Rattle.jr_model.proofs.ListLemmas.{none_more}
use Rattle.jr_desk_state.specs.WriteLogs.{checks_in}
use Rattle.jr_desk_state.proofs.written.is_checked_file.Goals as goal

pub returns-then-checks_in : goal.returns-then-checks_in
returns-then-checks_in c =
    sym (any_at (checks_in c.args.file) c.args.plan.now.clones c.loop-clone.clone c.clone_at.result.now c.clone_at.ensures.value
    (sym c.checks_in.ensures ∙ c.if-checks_in.true))

pub loop-clone-preserved : goal.loop-clone-preserved
loop-clone-preserved c =
    none_more (checks_in c.args.file) c.args.plan.now.clones c.loop-clone.clone c.clone_at.result.now c.clone_at.ensures.value
    (sym c.checks_in.ensures ∙ c.if-checks_in.false) c.loop-clone.invariant
