use Rattle.std.proofs.Common.{List, ap, ◌∙◌}
use Rattle.jr_model.specs.declared.events.Event.{Event}
use Rattle.jr_model.specs.declared.events.Started.{Started}
use Rattle.jr_model.specs.History.{started}
use Rattle.jr_replay_passes.specs.Counts.{totals_by}
use Rattle.jr_replay_passes.proofs.counts.totals_among.Goals as goal

pub returns : goal.returns
returns c =
    c.totals_by.ensures
    ∙ ap (λ (ios : List Started). totals_by ios c.events.result.now c.args.clone) c.started.ensures
    ∙ ap (λ (events : List Event). totals_by (started c.args.past.now) events c.args.clone) c.events.ensures
