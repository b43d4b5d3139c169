use Rattle.jr_report_page.specs.Cells.{AreCellsBy}
use Rattle.jr_report_page.proofs.cells.cells_by.Given as goal

abbrev pub invariant-loop-place : goal.invariant-loop-place
invariant-loop-place l = AreCellsBy l.map l.firsts l.end l.place l.cells.items
