use Rattle.std.proofs.Common.{◌≤◌, max}
use Rattle.std.specs.Prelude.{Some}
use Rattle.std.specs.Option.{option_or}
use Rattle.jr_report_maps.proofs.Cells.{Painted}
use Rattle.jr_report_maps.proofs.firsts.note_range.Given as goal

abbrev pub invariant-loop-cell : goal.invariant-loop-cell
invariant-loop-cell l = record {
  until : l.cell ≤ max l.first l.until;
  firsts : Painted (λ first. option_or first (Some l.bad)) l.fn.firsts l.firsts l.first l.cell;
}
