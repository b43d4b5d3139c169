-- The piece is clear of what flies just where it is after the history.
use Rattle.std.proofs.Common.{◌∙◌, ap, Bool}
use Rattle.jr_flight.specs.Flights.{is_clear}
use Rattle.jr_desk_state.proofs.flying.Flying.is_clear.Goals as goal
use Rattle.jr_desk_state.proofs.FlyingMoves.{flying_clear}

pub returns : goal.returns
returns c plan history job was declines =
    c.clear.ensures.value
    ∙ ap (λ (b : Bool). is_clear b c.args.dir c.args.piece.now c.args.self.now.flight) declines
    ∙ flying_clear plan history job c.args.dir c.args.piece.now c.args.self.now c.requires.settled was
