use Rattle.std.proofs.Common.{◌≡◌, Bool, false, List, ap, ◌∙◌}
use Rattle.std.specs.List.{slice_get}
use Rattle.jr_model.specs.CellSet.{free_run}
use Rattle.jr_map.specs.Words.{is_set}
use Rattle.jr_map.proofs.FlagFacts.{clear_from_free, clear_is_cell, run_is_free}
use Rattle.jr_map.proofs.cells.CellMap.run.Goals as goal

pub returns : goal.returns
returns c =
    let ws = c.self.inside.levels.lowest.items in
    let clear : is_set ws c.args.x ≡ false = clear_from_free ws c.self.inside.cells c.args.x (ap (λ (f : List Bool). slice_get f c.args.x) c.self.view_is ∙ c.requires) in
    run_is_free ws c.self.inside.cells c.args.x c.args.want c.run.result c.self.invariant.marked (clear_is_cell ws c.self.inside.cells c.self.invariant.marked c.args.x clear) c.run.ensures
    ∙ ap (λ (f : List Bool). free_run f c.args.x c.args.want) c.self.view_is
