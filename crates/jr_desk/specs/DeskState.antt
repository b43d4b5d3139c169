-- Believed: what contracts see of a desk (of this project).
use Rattle.std.specs.Prelude.{Bool, List}
use Rattle.jr_model.specs.declared.events.Event.{Event}
use Rattle.jr_model.specs.Plan.{Plan}

-- the plan, what happened, and whether it was stopped
pub record DeskState : Type 0 where
  pub plan : Plan
  pub history : List Event
  pub is_stopped : Bool
