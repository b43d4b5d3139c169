use Rattle.std.proofs.Common.{ℕ, List, ◌++◌, ◌<◌, ◌≤◌, min, length, arith, append-nil, append_assoc, ap, ◌∙◌, sym}
use Rattle.jr_report_lines.proofs.LineLemmas.{lines_of_more, lines_of_none}
use Rattle.jr_report_lines.proofs.totals.totals_text.Goals as goal

pub loop-i-preserved : goal.loop-i-preserved
loop-i-preserved c =
    let within : c.loop-i.i < length c.args.totals.now = omega arith in
    rw (c.in_ok-push_totals_line.ensures, append_assoc)
    (ap (λ (rest : List ℕ). c.loop-i.text.items ++ rest)
    (sym (lines_of_more c.args.plan.now.clones c.args.totals.now c.loop-i.i c.clone_at.result.now _ c.clone_at.ensures.value within))
    ∙ c.loop-i.invariant)

pub returns : goal.returns
returns c =
    let past : min (length c.args.plan.now.clones) (length c.args.totals.now) ≤ c.loop-i.i = omega arith in
    sym (append-nil c.loop-i.text.items)
    ∙ ap (λ (rest : List ℕ). c.loop-i.text.items ++ rest) (sym (lines_of_none c.args.plan.now.clones c.args.totals.now c.loop-i.i past))
    ∙ c.loop-i.invariant
