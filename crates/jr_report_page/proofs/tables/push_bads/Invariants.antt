use Rattle.std.proofs.Common.{◌≡◌, ◌++◌, map, take, string_bytes}
use Rattle.std.specs.Prelude.{flat_map}
use Rattle.jr_diagnosis.specs.Rulings.{told}
use Rattle.jr_report_page.specs.Rows.{bad_row}
use Rattle.jr_report_page.proofs.tables.push_bads.Given as goal

abbrev pub invariant-loop-bad : goal.invariant-loop-bad
invariant-loop-bad l = string_bytes l.page ≡ string_bytes l.fn.page ++ flat_map (bad_row l.plan (map told l.found)) (take l.bad-index l.bads)
