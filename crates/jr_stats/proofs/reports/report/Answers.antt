use Rattle.std.proofs.Common.{List, ◌++◌, ap, ◌∙◌}
use Rattle.std.specs.Prelude.{flat_map}
use Rattle.jr_report_lines.specs.Miscompares.{bad_line}
use Rattle.jr_report_lines.proofs.ReportLemmas.{report_lines}
use Rattle.jr_stats.proofs.reports.report.Goals as goal
use Rattle.jr_desk_totals.specs.declared.tallies.Bad.{Bad}

pub returns : goal.returns
returns c =
    let given = c.plan-plan.result.now in
    report_lines c.args.desk.now.plan given c.args.desk.now.history c.totals.result.now c.in_ok-bads.bads.items c.in_ok-text.text.items
    c.push_bads.new.text.items c.plan-plan.ensures c.totals.ensures c.in_ok-text.ensures c.in_ok-bads.ensures
    (c.in_ok-push_bads.ensures ∙ ap (λ (bads : List Bad). c.in_ok-text.text.items ++ flat_map (bad_line given) bads) c.as_slice.ensures.value)
