use Rattle.std.proofs.Common.{◌≡◌, ◌++◌, drop, map}
use Rattle.jr_report_json.specs.Rows.{array_text, rest_text}
use Rattle.jr_after_json.specs.Json.{file_json}
use Rattle.jr_after_json.proofs.texts.push_files.Given as goal

-- what is written, and the items that are left, are the array
abbrev pub invariant-loop-i : goal.invariant-loop-i
invariant-loop-i l =
    l.text.items ++ rest_text l.i (map (file_json l.plan l.unread) (drop l.i l.found))
    ≡ l.fn.text.items ++ array_text (map (file_json l.plan l.unread) l.found)
