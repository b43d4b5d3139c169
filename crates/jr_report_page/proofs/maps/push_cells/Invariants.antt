use Rattle.std.proofs.Common.{◌≡◌, ◌++◌, take, string_bytes}
use Rattle.std.specs.Prelude.{flat_map}
use Rattle.jr_report_page.specs.Cells.{cell_text}
use Rattle.jr_report_page.proofs.maps.push_cells.Given as goal

abbrev pub invariant-loop-cell : goal.invariant-loop-cell
invariant-loop-cell l = string_bytes l.page ≡ string_bytes l.fn.page ++ flat_map cell_text (take l.cell-index l.cells)
