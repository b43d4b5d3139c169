use Rattle.std.proofs.Common.{ℕ, List, ap, ◌∙◌, take, length, ◌≤◌, arith}
use Rattle.std.proofs.lemmas.List.{take_all}
use Rattle.jr_model.specs.declared.totals.Totals.{Totals}
use Rattle.jr_rounds.specs.Originals.{of_original}
use Rattle.jr_rounds.specs.Sums.{sum_of}
use Rattle.jr_rounds.proofs.OriginalLemmas.{part_more}
use Rattle.jr_rounds.proofs.originals.sum_of.Goals as goal

pub loop-i-preserved : goal.loop-i-preserved
loop-i-preserved c =
    rw (c.added_if-sum.ensures, c.loop-i.invariant)
    (part_more c.args.clone c.args.originals.now c.args.totals.now c.loop-i.i _ _ c.loop-i-test.true c.requires)

pub returns : goal.returns
returns c =
    let originals = c.args.originals.now in
    let totals = c.args.totals.now in
    let past : length totals ≤ c.loop-i.i = omega arith in
    c.loop-i.invariant
    ∙ ap (λ (os : List ℕ). sum_of (of_original c.args.clone os (take c.loop-i.i totals))) (take_all c.loop-i.i originals c.loop-i-test.false)
    ∙ ap (λ (ts : List Totals). sum_of (of_original c.args.clone originals ts)) (take_all c.loop-i.i totals past)
