use Rattle.std.proofs.Common.{◌≡◌, Bool, List, length, sym, ap, ◌∙◌, arith}
use Rattle.jr_model.specs.CellSet.{free_run, with_cells, free_count}
use Rattle.jr_map.specs.Levels.{flags_of}
use Rattle.jr_model.proofs.CellFacts.{free_run-within, free_count-with_cells}
use Rattle.jr_map.proofs.MarkFacts.{grown}
use Rattle.jr_map.proofs.FlagFacts.{length-flags_of, marked_beyond, MarksCells-beyond, taken_flags}
use Rattle.jr_map.proofs.cells.CellMap.take.Goals as goal

pub mark-requires-clause-within : goal.mark-requires-clause-within
mark-requires-clause-within c = λ some.
    let cells = length-flags_of c.self.inside.levels.lowest.items c.self.inside.cells in
    let room = free_run-within c.args.self.now c.args.x c.args.m c.requires in
    omega (arith, cells, ap length c.self.view_is, room)

pub overflow_sub-self : goal.overflow_sub-self
overflow_sub-self c =
    omega (arith, ap free_count c.self.view_is, free_count-with_cells c.args.self.now c.args.x c.args.m c.requires)

pub invariant_of-self : goal.invariant_of-self
invariant_of-self c =
    let old = c.self.inside.levels.lowest.items in
    let new = c.mark.new.self.lowest.items in
    let n = c.self.inside.cells in
    let free : free_run (flags_of old n) c.args.x c.args.m ≡ c.args.m = ap (λ (f : List Bool). free_run f c.args.x c.args.m) c.self.view_is ∙ c.requires in
    record {
      least = c.self.invariant.least;
      most = c.self.invariant.most;
      words = c.mark.ensures.len ∙ c.self.invariant.words;
      shape = c.mark.ensures.shape;
      marked = MarksCells-beyond new n
          (λ p past. grown old new c.args.x _ p c.mark.ensures.set (marked_beyond old n c.self.invariant.marked p past));
      summed = c.mark.ensures.summed;
      count = omega (arith, c.self.invariant.count, ap free_count (taken_flags old new n c.args.x c.args.m c.mark.ensures.set free), free_count-with_cells (flags_of old n) c.args.x c.args.m free);
    }

pub returns-clause-cells : goal.returns-clause-cells
returns-clause-cells c =
    let old = c.self.inside.levels.lowest.items in
    let new = c.mark.new.self.lowest.items in
    let n = c.self.inside.cells in
    let free : free_run (flags_of old n) c.args.x c.args.m ≡ c.args.m = ap (λ (f : List Bool). free_run f c.args.x c.args.m) c.self.view_is ∙ c.requires in
    taken_flags old new n c.args.x c.args.m c.mark.ensures.set free
    ∙ ap (λ (f : List Bool). with_cells f c.args.x c.args.m) c.self.view_is

pub returns-clause-len : goal.returns-clause-len
returns-clause-len c =
    let n = c.self.inside.cells in
    length-flags_of c.mark.new.self.lowest.items n ∙ sym (length-flags_of c.self.inside.levels.lowest.items n) ∙ ap length c.self.view_is
