use Rattle.std.proofs.Common.{List, ap, ◌∙◌}
use Rattle.jr_model.specs.declared.events.Event.{Event}
use Rattle.jr_model.specs.Totals.{totals_of}
use Rattle.jr_replay_passes.proofs.counts.totals.Goals as goal

pub returns : goal.returns
returns c =
    c.totals_among.ensures ∙ ap (λ (history : List Event). totals_of history c.args.clone) c.in_ok-past.ensures
