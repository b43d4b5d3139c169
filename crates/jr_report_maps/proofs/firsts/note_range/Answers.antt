use Rattle.std.proofs.Common.{◌≡◌, ◌<◌, max, length, arith}
use Rattle.std.specs.Prelude.{Option, Some}
use Rattle.std.specs.Option.{option_or}
use Rattle.jr_report_maps.proofs.Cells.{painted_end, painted_more, painted_none}
use Rattle.jr_report_maps.proofs.Lists.{counted_to}
use Rattle.jr_report_maps.proofs.firsts.note_range.Goals as goal
use Rattle.jr_desk_totals.specs.declared.tallies.Bad.{Bad}

abbrev noted : Bad → Option Bad → Option Bad
noted bad first = option_or first (Some bad)

pub loop-cell-init : goal.loop-cell-init
loop-cell-init c = record { until = omega arith; firsts = painted_none (noted c.args.bad.now) c.args.firsts.now c.args.first }

pub loop-cell-preserved : goal.loop-cell-preserved
loop-cell-preserved c = record {
  until = omega arith;
  firsts = painted_more (noted c.args.bad.now) c.args.firsts.now c.loop-cell.firsts c.note_cell.new.firsts c.args.first c.loop-cell.cell
      (omega arith) (omega arith) (omega arith) c.note_cell.ensures.this c.note_cell.ensures.others c.loop-cell.invariant.firsts;
}

pub returns : goal.returns
returns c = λ cell d within.
    let until = c.min-until.result in
    let inside : cell < length c.loop-cell.firsts = omega arith in
    let is : c.loop-cell.cell ≡ max c.args.first until =
    counted_to c.args.first until c.loop-cell.cell (omega arith) c.loop-cell.invariant.until (omega arith) in
    painted_end (noted c.args.bad.now) c.args.firsts.now c.loop-cell.firsts c.args.first until c.args.end c.loop-cell.cell
    (omega arith) is c.loop-cell.invariant.firsts cell d inside
