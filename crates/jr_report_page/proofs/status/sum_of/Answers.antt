use Rattle.std.proofs.Common.{◌∙◌, ℕ, ◌+◌, ◌-◌, ◌^◌, min, List, take, ap, sym}
use Rattle.std.specs.Prelude.{sum_by}
use Rattle.std.proofs.lemmas.List.{take_all}
use Rattle.std.proofs.lemmas.List.Sums.{sum_by_more}
use Rattle.jr_model.specs.declared.totals.Totals.{Totals}
use Rattle.jr_report_page.specs.Status.{count_of}
use Rattle.jr_report_page.proofs.SumLemmas.{capped_more}
use Rattle.jr_report_page.proofs.status.sum_of.Goals as goal

-- what stands behind the end of a list of totals
abbrev none : Totals
none = record { reads = 0; rbytes = 0; writes = 0; wbytes = 0; checks = 0; good = 0; bad = 0; skipped = 0; void = 0; faults = 0 }

pub loop-one-preserved : goal.loop-one-preserved
loop-one-preserved c =
    let totals = c.args.totals.now in
    let i = c.loop-one.one-index in
    let f = count_of c.args.what in
    capped_more (2 ^ 64 - 1) (sum_by f (take i totals)) c.count_of.result (sum_by f (take (i + 1) totals)) c.loop-one.sum c.saturating_add-sum.result
    c.loop-one.invariant c.saturating_add-sum.ensures
    (sum_by_more f totals i none c.loop-one-test.true ∙ ap (λ (n : ℕ). sum_by f (take i totals) + n) (sym c.count_of.ensures))

pub returns : goal.returns
returns c =
    c.loop-one.invariant
    ∙ ap (λ (totals : List Totals). min (2 ^ 64 - 1) (sum_by (count_of c.args.what) totals)) (take_all c.loop-one.one-index c.args.totals.now c.loop-one-test.false)
