use Rattle.std.proofs.Common.{List, ap, ◌∙◌}
use Rattle.std.specs.List.{list_any}
use Rattle.jr_model.specs.declared.events.Event.{Event}
use Rattle.jr_model.specs.Legal.{takes_up}
use Rattle.jr_replay_history.proofs.ledgers.Ledger.is_taken_up.Goals as goal

pub returns : goal.returns
returns c =
    c.contains.ensures
    ∙ c.self.invariant.all_marked.taken_up c.args.write.now
    ∙ ap (λ (history : List Event). list_any (takes_up c.args.write.now) history) c.self.view_is
