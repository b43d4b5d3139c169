use Rattle.std.proofs.Common.{ℕ, ◌++◌, ap, ◌∙◌}
use Rattle.std.specs.Prelude.{codes}
use Rattle.jr_plan.proofs.ListLemmas.{added-four}
use Rattle.jr_model.specs.Report.{field}
use Rattle.jr_rounds.specs.Seeds.{seed_offset}
use Rattle.jr_rounds.proofs.texts.push_round_header.Goals as goal

pub returns : goal.returns
returns c =
    let start = c.args.text.now.items in
    let number =
    c.in_ok-push_field.ensures
    ∙ ap (λ (n : ℕ). c.push_text.new.text.items ++ field (codes "number") n) c.from.ensures in
    let offset =
    c.in_ok-push_field-2.ensures
    ∙ ap (λ (n : ℕ). c.push_field.new.text.items ++ field (codes "randseed-offset") n) c.seed_offset.ensures in
    added-four start c.push_text.new.text.items c.push_field.new.text.items c.push_field-2.new.text.items c.push_text-2.new.text.items
    (codes "round:") (field (codes "number") c.args.round) (field (codes "randseed-offset") (seed_offset c.args.round)) (codes "\n")
    c.in_ok-push_text.ensures number offset c.in_ok-push_text-2.ensures
