use Rattle.std.proofs.Common.{◌≡◌, ◌<◌, max, length, arith}
use Rattle.jr_report_maps.proofs.Cells.{painted_end, painted_more, painted_none}
use Rattle.jr_report_maps.proofs.Lists.{counted_to}
use Rattle.jr_report_maps.specs.Maps.{worse}
use Rattle.jr_report_maps.specs.declared.fates.Fate.{Fate}
use Rattle.jr_report_maps.proofs.maps.paint_range.Goals as goal

pub loop-cell-init : goal.loop-cell-init
loop-cell-init c = record { until = omega arith; fates = painted_none (λ (fate : Fate). worse fate c.args.fate) c.args.fates.now c.args.first }

pub loop-cell-preserved : goal.loop-cell-preserved
loop-cell-preserved c = record {
  until = omega arith;
  fates = painted_more (λ (fate : Fate). worse fate c.args.fate) c.args.fates.now c.loop-cell.fates c.paint_cell.new.fates c.args.first c.loop-cell.cell
      (omega arith) (omega arith) (omega arith) c.paint_cell.ensures.this c.paint_cell.ensures.others c.loop-cell.invariant.fates;
}

pub returns : goal.returns
returns c = λ cell d within.
    let until = c.min-until.result in
    let inside : cell < length c.loop-cell.fates = omega arith in
    let is : c.loop-cell.cell ≡ max c.args.first until =
    counted_to c.args.first until c.loop-cell.cell (omega arith) c.loop-cell.invariant.until (omega arith) in
    painted_end (λ (fate : Fate). worse fate c.args.fate) c.args.fates.now c.loop-cell.fates c.args.first until c.args.end c.loop-cell.cell
    (omega arith) is c.loop-cell.invariant.fates cell d inside
