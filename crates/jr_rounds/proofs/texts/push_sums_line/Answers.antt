use Rattle.std.specs.Prelude.{codes}
use Rattle.jr_plan.proofs.ListLemmas.{added-four}
use Rattle.jr_model.specs.Report.{field, totals_line}
use Rattle.jr_rounds.proofs.texts.push_sums_line.Goals as goal

pub returns : goal.returns
returns c =
    let start = c.args.text.now.items in
    added-four start c.push_text.new.text.items c.push_field.new.text.items c.push_text-2.new.text.items c.push_totals_line.new.text.items
    (codes "total:") (field (codes "rounds") c.args.rounds) (codes " ") (totals_line c.args.job.now c.args.sum.now)
    c.in_ok-push_text.ensures c.in_ok-push_field.ensures c.in_ok-push_text-2.ensures c.in_ok-push_totals_line.ensures
