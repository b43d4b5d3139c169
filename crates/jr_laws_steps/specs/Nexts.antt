-- Internal: one event more of a planned run.
use Rattle.std.specs.Prelude.{◌≡◌, true, List, [], ◌∷◌, ◌++◌}
use Rattle.jr_model.specs.declared.events.Event.{Event}
use Rattle.jr_model.specs.Legal.{is_legal, may_happen}
use Rattle.jr_model.specs.Plan.{Plan}
use Rattle.jr_model.specs.PlanFacts.{IsPlanned}

-- the event may happen next after the legal history of a plan
pub record IsNext (plan : Plan) (history : List Event) (event : Event) : Type 0 where
  pub planned : IsPlanned plan
  pub legal : is_legal plan history ≡ true
  pub may : may_happen plan history event ≡ true

-- the history with this event
abbrev pub grown : List Event → Event → List Event
grown history event = history ++ event ∷ []
