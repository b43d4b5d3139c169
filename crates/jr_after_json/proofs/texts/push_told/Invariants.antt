use Rattle.std.proofs.Common.{◌≡◌, ◌++◌, drop, map}
use Rattle.jr_report_json.specs.Rows.{array_text, rest_text}
use Rattle.jr_after_json.specs.Json.{told_json}
use Rattle.jr_after_json.proofs.texts.push_told.Given as goal

-- what is written, and the items that are left, are the array
abbrev pub invariant-loop-i : goal.invariant-loop-i
invariant-loop-i l =
    l.text.items ++ rest_text l.i (map (told_json l.plan) (drop l.i l.told))
    ≡ l.fn.text.items ++ array_text (map (told_json l.plan) l.told)
