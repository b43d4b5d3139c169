use Rattle.std.proofs.Common.{ℕ, List, ◌++◌, ap, ◌∙◌}
use Rattle.std.specs.Prelude.{codes, decimal}
use Rattle.jr_model.specs.declared.totals.Totals.{Totals}
use Rattle.jr_report_json.specs.Json.{clones_json}
use Rattle.jr_report_json.specs.Rows.{array_text}
use Rattle.jr_rounds.proofs.JsonLemmas.{five_pieces}
use Rattle.jr_rounds.proofs.json.sums_json.Goals as goal

pub returns : goal.returns
returns c =
    let plan = c.args.plan.now in
    let sums = c.args.sums.now in
    let number = c.in_ok-push_number.ensures ∙ ap (λ (n : ℕ). c.push_text.new.text.items ++ decimal n) c.rounds.ensures in
    let clones =
    c.in_ok-push_clones.ensures
    ∙ ap (λ (totals : List Totals). c.push_text-2.new.text.items ++ array_text (clones_json plan.clones totals)) c.totals.ensures in
    five_pieces c.new-text.result.items c.push_text.new.text.items c.push_number.new.text.items c.push_text-2.new.text.items
    c.push_clones.new.text.items c.push_text-3.new.text.items
    (codes "{\"rounds\":") (decimal sums.rounds) (codes ",\"totals\":") (array_text (clones_json plan.clones sums.totals)) (codes "}\n")
    c.new-text.ensures.items c.in_ok-push_text.ensures number c.in_ok-push_text-2.ensures clones c.in_ok-push_text-3.ensures
