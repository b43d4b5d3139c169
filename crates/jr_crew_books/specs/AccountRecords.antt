-- Believed: what contracts see of the account of a run.
use Rattle.std.specs.Prelude.{List}
use Rattle.jr_model.specs.declared.events.Event.{Event}
use Rattle.jr_model.specs.Plan.{Plan}

-- the plan, and what happened
pub record AccountRecord : Type 0 where
  pub plan : Plan
  pub history : List Event
