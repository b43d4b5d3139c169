use Rattle.std.proofs.Common.{◌≡◌, ℕ, length, subst, arith}
use Rattle.jr_report_page.specs.Cells.{AreCellsBy}
use Rattle.jr_report_page.proofs.CellLemmas.{cell_more, no_cells}
use Rattle.jr_report_page.proofs.cells.cells_by.Goals as goal

pub loop-place-init : goal.loop-place-init
loop-place-init c = no_cells c.args.map.now c.args.firsts.now c.args.end _ c.new-cells.ensures.items

pub loop-place-preserved : goal.loop-place-preserved
loop-place-preserved c =
    cell_more c.args.map.now c.args.firsts.now c.args.end c.loop-place.place c.loop-place.cells.items c.add_cell.new.cells.items c.cell_at.result
    c.in_ok-add_cell.ensures c.cell_at.ensures c.loop-place.invariant

pub returns : goal.returns
returns c =
    let is : c.loop-place.place ≡ length c.args.map.now.fates.items = omega arith in
    subst (λ (n : ℕ). AreCellsBy c.args.map.now c.args.firsts.now c.args.end n c.loop-place.cells.items) is c.loop-place.invariant
