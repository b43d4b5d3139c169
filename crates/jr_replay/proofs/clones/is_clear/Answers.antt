use Rattle.std.proofs.Common.{Bool, List, ℕ, ap, ◌∙◌}
use Rattle.jr_model.specs.Legal.{is_clear}
use Rattle.jr_model.specs.Plan.{SubJob}
use Rattle.jr_flight.specs.declared.ios.Ended.{Ended}
use Rattle.jr_flight.specs.Flights.{is_clear as is_clear_of}
use Rattle.jr_laws_log.proofs.FlyingLaws.{clear_is_clear}
use Rattle.jr_replay.proofs.IndexLaws.{draw_fits}
use Rattle.jr_replay.proofs.clones.is_clear.Goals as goal

pub flight_is_clear-requires : goal.flight_is_clear-requires
flight_is_clear-requires c =
    draw_fits c.args.plan.now c.args.pass.now c.args.draw.now c.requires.course.planned c.requires.there c.facts.ensures c.requires.drawn

pub returns : goal.returns
returns c =
    let plan = c.args.plan.now in
    let h = c.args.course.now.history in
    let pass = c.args.pass.now in
    let piece = c.args.draw.now.piece in
    c.flight_is_clear.ensures
    ∙ ap (λ (declines : Bool). is_clear_of declines c.way.result piece c.args.course.now.indexes.flight)
    (c.declines-declines.ensures ∙ ap (λ (job : SubJob). job.declines) c.job.ensures)
    ∙ ap (λ (flying : List (ℕ × Ended)). is_clear_of pass.job.declines c.way.result piece flying) c.requires.course.indexed.flight
    ∙ clear_is_clear plan h pass.job c.way.result piece
    ∙ ap (λ (writes : Bool). is_clear plan h pass.job writes piece) c.way.ensures
