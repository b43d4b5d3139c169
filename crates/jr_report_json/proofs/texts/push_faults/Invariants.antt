use Rattle.std.proofs.Common.{◌≡◌, ◌++◌, drop, map}
use Rattle.jr_report_faults.specs.Faults.{named}
use Rattle.jr_report_json.specs.Json.{faults_json}
use Rattle.jr_report_json.specs.Rows.{array_text, rest_text, texts_of}
use Rattle.jr_report_json.proofs.texts.push_faults.Given as goal

-- what is written, and the items that are left, are the array
abbrev pub invariant-loop-i : goal.invariant-loop-i
invariant-loop-i l =
    l.text.items ++ rest_text l.i (faults_json (map named (drop l.i l.faults)) (drop l.i (texts_of l.reasons)))
    ≡ l.fn.text.items ++ array_text (faults_json (map named l.faults) (texts_of l.reasons))
