use Rattle.std.proofs.Common.{ℕ, List, ◌++◌, ◌<◌, ◌≤◌, min, length, string_bytes, arith, append-nil, append_assoc, ap, ◌∙◌, sym}
use Rattle.jr_report_page.proofs.RowLemmas.{totals_more, totals_none}
use Rattle.jr_report_page.proofs.tables.push_all_totals.Goals as goal

pub loop-i-preserved : goal.loop-i-preserved
loop-i-preserved c =
    let within : c.loop-i.i < length c.args.totals.now = omega arith in
    rw (c.in_ok-push_totals.ensures, append_assoc)
    (ap (λ (rest : List ℕ). string_bytes c.loop-i.page ++ rest)
    (sym (totals_more c.args.plan.now.clones c.args.totals.now c.loop-i.i c.clone_at.result.now _ c.clone_at.ensures.value within))
    ∙ c.loop-i.invariant)

pub returns : goal.returns
returns c =
    let past : min (length c.args.plan.now.clones) (length c.args.totals.now) ≤ c.loop-i.i = omega arith in
    sym (append-nil (string_bytes c.loop-i.page))
    ∙ ap (λ (rest : List ℕ). string_bytes c.loop-i.page ++ rest) (sym (totals_none c.args.plan.now.clones c.args.totals.now c.loop-i.i past))
    ∙ c.loop-i.invariant
