use Rattle.std.proofs.Common.{List, ap, ◌∙◌}
use Rattle.std.proofs.lemmas.List.{take_all}
use Rattle.jr_model.specs.declared.totals.Totals.{Totals}
use Rattle.jr_rounds.specs.Sums.{sum_of}
use Rattle.jr_rounds.proofs.SumLemmas.{totals_more}
use Rattle.jr_rounds.proofs.sums.total_of.Goals as goal

pub loop-i-preserved : goal.loop-i-preserved
loop-i-preserved c =
    rw (c.added-sum.ensures, c.loop-i.invariant) (totals_more c.args.totals.now c.loop-i.i _ c.loop-i-test.true)

pub returns : goal.returns
returns c =
    c.loop-i.invariant ∙ ap (λ (totals : List Totals). sum_of totals) (take_all c.loop-i.i c.args.totals.now c.loop-i-test.false)
