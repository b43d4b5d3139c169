use Rattle.std.proofs.Common.{◌≡◌, length, sym, ap, ◌∙◌}
use Rattle.jr_model.specs.CellSet.{no_cells, free_count}
use Rattle.jr_map.proofs.FlagFacts.{length-flags_of, MarksCells-beyond, clear_flags, free_count-no_cells}
use Rattle.jr_map.proofs.cells.CellMap.clear.Goals as goal

pub invariant_of-self : goal.invariant_of-self
invariant_of-self c =
    let ws = c.clear.new.self.lowest.items in
    let n = c.self.inside.cells in
    record {
      least = c.self.invariant.least;
      most = c.self.invariant.most;
      words = c.clear.ensures.len;
      shape = c.clear.ensures.shape;
      marked = MarksCells-beyond ws n c.clear.ensures.clear.above;
      summed = c.clear.ensures.summed;
      count = sym (ap free_count (clear_flags ws n c.clear.ensures.clear) ∙ free_count-no_cells n);
    }

pub returns-clause-cells : goal.returns-clause-cells
returns-clause-cells c =
    let n = c.self.inside.cells in
    let cells : n ≡ length c.args.self.now = sym (length-flags_of c.self.inside.levels.lowest.items n) ∙ ap length c.self.view_is in
    clear_flags c.clear.new.self.lowest.items n c.clear.ensures.clear ∙ ap no_cells cells

pub returns-clause-len : goal.returns-clause-len
returns-clause-len c =
    let n = c.self.inside.cells in
    length-flags_of c.clear.new.self.lowest.items n ∙ sym (length-flags_of c.self.inside.levels.lowest.items n) ∙ ap length c.self.view_is
