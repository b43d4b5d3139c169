use Rattle.std.proofs.Common.{List, sym, ap, ◌∙◌, arith}
use Rattle.std.specs.Prelude.{slice_get, ◌-◌}
use Rattle.jr_model.specs.declared.workloads.Draw.{Draw}
use Rattle.jr_replay_passes.proofs.RankLemmas.{none_below, last_found}
use Rattle.jr_replay_passes.proofs.passes.PlannedPass.last_below.Goals as goal

pub returns-then-count-eq0 : goal.returns-then-count-eq0
returns-then-count-eq0 c =
    none_below c.args.self.now c.args.number c.facts.ensures (sym c.writes_below-count.ensures ∙ c.if-count-eq0.true)

pub returns : goal.returns
returns c =
    last_found c.args.self.now c.args.number c.writes_below-count.result c.at_place.result c.facts.ensures c.writes_below-count.ensures
    (omega (arith, c.if-count-eq0.false))
    (c.at_place.ensures ∙ ap (λ (draws : List Draw). slice_get draws (c.writes_below-count.result - 1)) c.writes.ensures)
