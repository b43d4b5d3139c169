use Rattle.std.proofs.Common.{◌≡◌, ◌++◌, take, string_bytes}
use Rattle.std.specs.Prelude.{flat_map, map}
use Rattle.jr_report_faults.specs.Faults.{named}
use Rattle.jr_report_page.specs.Rows.{fault_row}
use Rattle.jr_report_page.proofs.tables.push_faults.Given as goal

abbrev pub invariant-loop-note : goal.invariant-loop-note
invariant-loop-note l = string_bytes l.page ≡ string_bytes l.fn.page ++ flat_map fault_row (map named (take l.note-index l.notes))
