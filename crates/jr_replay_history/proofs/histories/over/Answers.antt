use Rattle.std.proofs.Common.{◌≡◌, ap, ◌∙◌}
use Rattle.std.specs.Prelude.{filter_map}
use Rattle.jr_model.specs.History.{if_flying, if_awaiting}
use Rattle.jr_replay_history.specs.Unfinished.{unfinished}
use Rattle.jr_replay_history.proofs.UnfinishedLemmas.{flying_is, waiting_is}
use Rattle.jr_replay_history.proofs.histories.over.Goals as goal

pub invariant_of-result : goal.invariant_of-result
invariant_of-result c =
    let all : c.in_ok-pending.pending.items ≡ unfinished c.args.ledger = c.in_ok-pending.ensures ∙ c.requires.unfinished in
    record {
      all_pending = all;
      all_flying = c.in_ok-flying.ensures ∙ ap (filter_map (if_flying c.args.ledger)) (c.as_slice.ensures.value ∙ all) ∙ flying_is c.args.ledger;
      all_waiting = c.in_ok-waiting.ensures ∙ ap (filter_map (if_awaiting c.args.ledger)) (c.as_slice-2.ensures.value ∙ all) ∙ waiting_is c.args.ledger;
      all_raced = c.requires.raced;
    }
