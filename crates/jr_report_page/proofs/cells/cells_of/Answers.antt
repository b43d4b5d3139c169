use Rattle.std.proofs.Common.{◌≡◌, List, length, subst, arith}
use Rattle.std.specs.Prelude.{Option}
use Rattle.jr_report_page.proofs.CellLemmas.{all_cells}
use Rattle.jr_report_page.specs.Cells.{AreCellsBy}
use Rattle.jr_report_page.proofs.cells.cells_of.Goals as goal
use Rattle.jr_desk_totals.specs.declared.tallies.Bad.{Bad}

pub returns : goal.returns
returns c = λ history marks within.
    let map = c.in_ok-map.map in
    let firsts = c.in_ok-firsts.firsts.items in
    let same : length firsts ≡ length map.fates.items = omega (arith, c.in_ok-firsts.ensures.count, c.len.ensures) in
    all_cells map firsts c.args.plan.now history c.args.bads.now c.args.file c.args.end c.args.most c.in_ok-cells.cells.items
    (c.in_ok-map.ensures.map c.args.plan.now history marks within) same c.in_ok-firsts.ensures.firsts
    (subst (λ (xs : List (Option Bad)). AreCellsBy map xs c.args.end (length map.fates.items) c.in_ok-cells.cells.items)
    c.as_slice.ensures.value c.in_ok-cells.ensures)
