use Rattle.std.proofs.Common.{string_bytes}
use Rattle.std.specs.Prelude.{None}
use Rattle.jr_model.proofs.ListLemmas.{flat_map_so_far}
use Rattle.jr_report_page.specs.Cells.{cell_text}
use Rattle.jr_report_page.specs.declared.cells.Cell.{Cell}
use Rattle.jr_report_page.proofs.maps.push_cells.Goals as goal
use Rattle.jr_report_maps.specs.declared.fates.Fate.TheVariants.{Untouched}

pub loop-cell-preserved : goal.loop-cell-preserved
loop-cell-preserved c =
    let none : Cell = record { place = 0; begin = 0; end = 0; fate = Untouched; first = None } in
    flat_map_so_far cell_text (string_bytes c.args.page.now) (string_bytes c.loop-cell.page) (string_bytes c.push_cell.new.page) c.args.cells.now
    c.loop-cell.cell-index none c.loop-cell-test.true c.loop-cell.invariant c.in_ok-push_cell.ensures
