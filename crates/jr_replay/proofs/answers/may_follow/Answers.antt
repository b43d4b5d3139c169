use Rattle.std.proofs.Common.{◌&&◌, List, ap, sym, ◌∙◌}
use Rattle.std.specs.Prelude.{slice_get}
use Rattle.jr_model.specs.declared.events.Event.{Event}
use Rattle.jr_model.specs.History.{flies, started}
use Rattle.jr_model.specs.Legal.{end_fits, may_happen}
use Rattle.jr_replay.proofs.answers.may_follow.Goals as goal

pub returns-in-End : goal.returns-in-End
returns-in-End c =
    c.may_end.ensures
    ∙ ap (λ (h : List Event). flies h c.in-End.io && end_fits c.in-End.worker c.in-End.outcome (slice_get (started h) c.in-End.io)) c.ledger.ensures
    ∙ ap (λ (event : Event). may_happen c.args.plan.now c.args.past.now event) (sym c.in-End.is)

pub returns-in-Verdict : goal.returns-in-Verdict
returns-in-Verdict c = c.may_judge.ensures ∙ ap (λ (event : Event). may_happen c.args.plan.now c.args.past.now event) (sym c.in-Verdict.is)
