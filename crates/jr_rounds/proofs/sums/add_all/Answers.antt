use Rattle.std.proofs.Common.{List, ap, ◌∙◌}
use Rattle.std.proofs.lemmas.List.{take_all}
use Rattle.jr_model.specs.declared.totals.Totals.{Totals}
use Rattle.jr_rounds.specs.Adding.{all_added}
use Rattle.jr_rounds.proofs.SumLemmas.{all_added_none, all_added_more}
use Rattle.jr_rounds.proofs.sums.add_all.Goals as goal
use Rattle.std.proofs.Common.{sym}

pub loop-i-init : goal.loop-i-init
loop-i-init c = sym (all_added_none c.args.sums.now)

pub loop-i-preserved : goal.loop-i-preserved
loop-i-preserved c =
    rw (c.added.ensures, c.loop-i.invariant)
    (all_added_more c.args.sums.now c.args.totals.now c.loop-i.i _ _ c.loop-i-test.true c.requires)

pub returns : goal.returns
returns c =
    c.loop-i.invariant
    ∙ ap (λ (totals : List Totals). all_added c.args.sums.now totals) (take_all c.loop-i.i c.args.totals.now c.loop-i-test.false)
