use Rattle.std.proofs.Common.{◌≡◌, ◌++◌, drop}
use Rattle.jr_report_json.specs.Json.{clones_json}
use Rattle.jr_report_json.specs.Rows.{array_text, rest_text}
use Rattle.jr_report_json.proofs.texts.push_clones.Given as goal

-- what is written, and the items that are left, are the array
abbrev pub invariant-loop-i : goal.invariant-loop-i
invariant-loop-i l =
    l.text.items ++ rest_text l.i (clones_json (drop l.i l.plan.clones) (drop l.i l.totals))
    ≡ l.fn.text.items ++ array_text (clones_json l.plan.clones l.totals)
