use Rattle.std.proofs.Common.{Bool, List, sym, ap, ◌∙◌, arith}
use Rattle.std.specs.List.{slice_get}
use Rattle.jr_model.specs.CellSet.{free_cell_from}
use Rattle.jr_map.proofs.FlagFacts.{clear_is_cell, free_from_clear, picked_from, picked_before, picked_none}
use Rattle.jr_map.proofs.cells.CellMap.pick.Goals as goal

pub overflow_cast-result : goal.overflow_cast-result
overflow_cast-result c =
    let within = clear_is_cell c.self.inside.levels.lowest.items c.self.inside.cells c.self.invariant.marked c.in-Some.x c.in-Some.ensures.clear in
    omega (arith, within)

pub returns-in-Some-clause-value : goal.returns-in-Some-clause-value
returns-in-Some-clause-value c =
    sym (picked_from c.self.inside.levels.lowest.items c.self.inside.cells c.args.r c.in-Some.x c.self.invariant.marked c.in-Some.ensures)
    ∙ ap (λ (f : List Bool). free_cell_from f c.args.r) c.self.view_is

pub returns-in-Some-clause-free : goal.returns-in-Some-clause-free
returns-in-Some-clause-free c =
    ap (λ (f : List Bool). slice_get f c.in-Some.x) (sym c.self.view_is)
    ∙ free_from_clear c.self.inside.levels.lowest.items c.self.inside.cells c.self.invariant.marked c.in-Some.x c.in-Some.ensures.clear

pub returns-in_ok-next_clear-in-None-clause-value : goal.returns-in_ok-next_clear-in-None-clause-value
returns-in_ok-next_clear-in-None-clause-value c =
    sym (picked_before c.self.inside.levels.lowest.items c.self.inside.cells c.args.r c.in_ok-next_clear-in-None.field-0 c.self.invariant.marked c.in-None.ensures c.in_ok-next_clear-in-None.ensures)
    ∙ ap (λ (f : List Bool). free_cell_from f c.args.r) c.self.view_is

pub returns-in_ok-next_clear-in-None-clause-free : goal.returns-in_ok-next_clear-in-None-clause-free
returns-in_ok-next_clear-in-None-clause-free c =
    ap (λ (f : List Bool). slice_get f c.in_ok-next_clear-in-None.field-0) (sym c.self.view_is)
    ∙ free_from_clear c.self.inside.levels.lowest.items c.self.inside.cells c.self.invariant.marked c.in_ok-next_clear-in-None.field-0 c.in_ok-next_clear-in-None.ensures.clear

pub returns-in_err-next_clear-in-None-clause-value : goal.returns-in_err-next_clear-in-None-clause-value
returns-in_err-next_clear-in-None-clause-value c =
    rw c.from_residual.ensures
    (sym (picked_none c.self.inside.levels.lowest.items c.self.inside.cells c.args.r c.in_err-next_clear-in-None.ensures)
    ∙ ap (λ (f : List Bool). free_cell_from f c.args.r) c.self.view_is)
