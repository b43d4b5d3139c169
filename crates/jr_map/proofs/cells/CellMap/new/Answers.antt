use Rattle.std.proofs.Common.{sym, ap, ◌∙◌}
use Rattle.jr_model.specs.CellSet.{free_count}
use Rattle.jr_map.proofs.FlagFacts.{MarksCells-beyond, clear_flags, free_count-no_cells}
use Rattle.jr_map.proofs.cells.CellMap.new.Goals as goal

pub invariant_of-result : goal.invariant_of-result
invariant_of-result c =
    let made = c.in_ok-levels.ensures in
    let ws = c.in_ok-levels.levels.lowest.items in
    record {
      least = c.requires.least;
      most = c.requires.most;
      words = made.len;
      shape = made.shape;
      marked = MarksCells-beyond ws c.args.n made.clear.above;
      summed = made.summed;
      count = sym (ap free_count (clear_flags ws c.args.n made.clear) ∙ free_count-no_cells c.args.n);
    }

pub returns : goal.returns
returns c = clear_flags c.in_ok-levels.levels.lowest.items c.args.n c.in_ok-levels.ensures.clear
