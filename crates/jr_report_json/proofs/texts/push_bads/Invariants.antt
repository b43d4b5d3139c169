use Rattle.std.proofs.Common.{◌≡◌, ◌++◌, ◌≤◌, drop, map}
use Rattle.jr_diagnosis.specs.Rulings.{told}
use Rattle.jr_report_json.specs.Rows.{array_text, bads_json, rest_text}
use Rattle.jr_desk_totals.specs.Bads.{miscompare_of}
use Rattle.jr_report_json.proofs.texts.push_bads.Given as goal

-- what is written, and the items that are left, are the array; there are no more items than bad verdicts
abbrev pub invariant-loop-bad : goal.invariant-loop-bad
invariant-loop-bad l =
    (l.text.items ++ rest_text l.place (bads_json l.plan (map told l.found) l.of_reads (map miscompare_of (drop l.bad-index l.bads)))
    ≡ l.fn.text.items ++ array_text (bads_json l.plan (map told l.found) l.of_reads (map miscompare_of l.bads)))
    × (l.place ≤ l.bad-index)
