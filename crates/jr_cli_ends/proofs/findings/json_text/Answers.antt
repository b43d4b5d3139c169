use Rattle.std.proofs.Common.{◌∙◌, map}
use Rattle.std.proofs.lemmas.Result.{IfOk-weaker}
use Rattle.jr_report_json.specs.Rows.{ending_of, notes_of}
use Rattle.jr_desk_totals.specs.Bads.{miscompare_of}
use Rattle.jr_cli_ends.proofs.JsonLines.{line_of_parts}
use Rattle.jr_cli_ends.proofs.findings.json_text.Goals as goal

pub returns : goal.returns
returns c =
    IfOk-weaker c.json_text.result _ _ (λ text is.
    is
    ∙ line_of_parts c.args.findings.now (ending_of c.ending-ending.result) c.plan-plan.result.now c.totals.result.now (map miscompare_of c.bads_in_order.result.now)
    c.faults.result.now (notes_of c.args.notes.now) c.args.storage.now c.ending-ending.ensures c.plan-plan.ensures c.totals.ensures c.bads_in_order.ensures c.faults.ensures) c.json_text.ensures
