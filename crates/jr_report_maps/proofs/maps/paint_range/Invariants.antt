use Rattle.std.proofs.Common.{◌≤◌, max}
use Rattle.jr_report_maps.proofs.Cells.{Painted}
use Rattle.jr_report_maps.specs.Maps.{worse}
use Rattle.jr_report_maps.proofs.maps.paint_range.Given as goal

abbrev pub invariant-loop-cell : goal.invariant-loop-cell
invariant-loop-cell l = record {
  until : l.cell ≤ max l.first l.until;
  fates : Painted (λ fate. worse fate l.fate) l.fn.fates l.fates l.first l.cell;
}
