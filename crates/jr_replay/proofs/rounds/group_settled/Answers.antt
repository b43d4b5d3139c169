use Rattle.std.proofs.Common.{List, ap, ◌∙◌}
use Rattle.std.specs.List.{list_all}
use Rattle.jr_model.specs.declared.workloads.Draw.{Draw}
use Rattle.jr_model.specs.Rounds.{write_id, is_settled}
use Rattle.jr_replay.proofs.RoundLemmas.{all_reverse}
use Rattle.jr_replay.proofs.rounds.group_settled.Goals as goal

pub returns : goal.returns
returns c =
    c.all_settled.ensures
    ∙ all_reverse (λ (draw : Draw). is_settled c.args.ledger.now (write_id c.args.pass.now draw)) c.group.result.now
    ∙ ap (λ (draws : List Draw). list_all (λ (draw : Draw). is_settled c.args.ledger.now (write_id c.args.pass.now draw)) draws) c.group.ensures
