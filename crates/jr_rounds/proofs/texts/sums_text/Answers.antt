use Rattle.std.proofs.Common.{ℕ, List, ◌++◌, ◌<◌, ◌≤◌, min, length, arith, append-nil, append_assoc, ap, ◌∙◌, sym}
use Rattle.jr_model.specs.declared.totals.Totals.{Totals}
use Rattle.jr_rounds.specs.Rounds.{sums_lines}
use Rattle.jr_rounds.proofs.TextLemmas.{no_line_more, sums_line_more}
use Rattle.jr_rounds.proofs.texts.sums_text.Goals as goal

pub loop-i-preserved : goal.loop-i-preserved
loop-i-preserved c =
    let n = c.args.sums.now.rounds in
    let totals = c.totals-totals.result.now in
    let within : c.loop-i.i < length totals = omega arith in
    rw (c.in_ok-push_sums_line.ensures, c.rounds.ensures, append_assoc)
    (ap (λ (rest : List ℕ). c.loop-i.text.items ++ rest)
    (sym (sums_line_more n c.args.plan.now.clones totals c.loop-i.i c.clone_at.result.now _ c.clone_at.ensures.value within))
    ∙ c.loop-i.invariant)

pub returns : goal.returns
returns c =
    let n = c.args.sums.now.rounds in
    let totals = c.totals-totals.result.now in
    let past : min (length c.args.plan.now.clones) (length totals) ≤ c.loop-i.i = omega arith in
    sym (append-nil c.loop-i.text.items)
    ∙ ap (λ (rest : List ℕ). c.loop-i.text.items ++ rest) (sym (no_line_more n c.args.plan.now.clones totals c.loop-i.i past))
    ∙ c.loop-i.invariant ∙ ap (λ (sums : List Totals). sums_lines n c.args.plan.now.clones sums) c.totals-totals.ensures
