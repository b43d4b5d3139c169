use Rattle.std.proofs.Common.{◌∙◌, ℕ, ◌+◌, ◌-◌, ◌^◌, min, List, take, ap, sym}
use Rattle.std.specs.Prelude.{sum_by}
use Rattle.std.proofs.lemmas.List.{take_all}
use Rattle.std.proofs.lemmas.List.Sums.{sum_by_more}
use Rattle.jr_after_report.specs.Reports.{FileState}
use Rattle.jr_after_page.specs.Status.{count_of}
use Rattle.jr_report_page.proofs.SumLemmas.{capped_more}
use Rattle.jr_after_page.proofs.status.sum_of.Goals as goal

pub loop-one-preserved : goal.loop-one-preserved
loop-one-preserved c =
    let found = c.args.found.now in
    let i = c.loop-one.one-index in
    let f = count_of c.args.what in
    capped_more (2 ^ 64 - 1) (sum_by f (take i found)) c.count_of.result (sum_by f (take (i + 1) found)) c.loop-one.sum
    c.saturating_add-sum.result
    c.loop-one.invariant c.saturating_add-sum.ensures
    (sum_by_more f found i c.one-item.result c.loop-one-test.true
    ∙ ap (λ (n : ℕ). sum_by f (take i found) + n) (ap f (sym c.one-item.is) ∙ sym c.count_of.ensures))

pub returns : goal.returns
returns c =
    c.loop-one.invariant
    ∙ ap (λ (found : List FileState). min (2 ^ 64 - 1) (sum_by (count_of c.args.what) found))
    (take_all c.loop-one.one-index c.args.found.now c.loop-one-test.false)
