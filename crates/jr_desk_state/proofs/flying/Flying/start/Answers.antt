-- What is started stands beside what flies.
use Rattle.jr_desk_state.proofs.flying.Flying.start.Goals as goal
use Rattle.jr_desk_state.proofs.FlyingMoves.{flying_start}

pub returns : goal.returns
returns c plan history event begun next starts is was =
    rw (c.mark-raced.ensures.value, c.mark-raced.ensures.entries)
    (flying_start plan history event begun c.args.io c.args.self.now next starts is c.requires.settled was)
