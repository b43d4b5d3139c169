use Rattle.std.proofs.Common.{List, ap, ◌∙◌}
use Rattle.jr_model.specs.declared.events.Event.{Event}
use Rattle.jr_model.specs.Rounds.{is_settled}
use Rattle.jr_replay_history.proofs.ledgers.Ledger.is_settled.Goals as goal

pub returns : goal.returns
returns c =
    c.contains.ensures
    ∙ c.self.invariant.all_marked.settled c.args.write.now
    ∙ ap (λ (history : List Event). is_settled history c.args.write.now) c.self.view_is
