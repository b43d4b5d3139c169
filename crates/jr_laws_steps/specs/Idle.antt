-- Claimed: when nothing may be started.
use Rattle.std.specs.Prelude.{◌≡◌, ℕ, true, List, [], None}
use Rattle.jr_model.specs.declared.events.Event.{Event}
use Rattle.jr_model.specs.Choice.{choice}
use Rattle.jr_model.specs.History.{in_flight, awaiting}
use Rattle.jr_model.specs.Legal.{is_legal, is_complete}
use Rattle.jr_model.specs.Plan.{Plan}
use Rattle.jr_model.specs.Serial.{serial_history}
use Rattle.jr_model.specs.PlanFacts.{IsPlanned}

-- a legal history after which nothing may be started, in which nothing flies and no verdict is missing, is complete: so a
-- worker waits only where something is in flight or awaits its verdict
abbrev pub IdleIsComplete : Type 0
IdleIsComplete =
    (plan : Plan) (history : List Event) (worker : ℕ)
    → IsPlanned plan
    → is_legal plan history ≡ true
    → choice plan history worker ≡ None
    → in_flight history ≡ []
    → awaiting history ≡ []
    → is_complete plan history ≡ true

-- the history of one worker over a right memory is complete
abbrev pub SerialIsComplete : Type 0
SerialIsComplete = (plan : Plan) → IsPlanned plan → is_complete plan (serial_history plan) ≡ true
