-- Claimed: how much a run can start, and what a take can append.
use Rattle.std.specs.Prelude.{◌≡◌, ◌≤◌, ◌*◌, ℕ, true, List, length, None}
use Rattle.jr_model.specs.declared.events.Event.{Event}
use Rattle.jr_model.specs.Choice.{choice}
use Rattle.jr_model.specs.History.{started}
use Rattle.jr_model.specs.Legal.{is_legal}
use Rattle.jr_model.specs.Machine.{Appends, taken, work_of}
use Rattle.jr_model.specs.Plan.{Plan}
use Rattle.jr_model.specs.Serial.{serial_history}
use Rattle.jr_model.specs.PlanFacts.{IsPlanned}

-- a legal history starts at most two I/Os for each draw: the draw's own, and the check of a write
abbrev pub StartedAreFew : Type 0
StartedAreFew =
    (plan : Plan) (history : List Event)
    → IsPlanned plan
    → is_legal plan history ≡ true
    → length (started history) ≤ 2 * work_of plan

-- a take finds at most as many skips as there are draws, so what the machine appends is all that there is to append
abbrev pub TakenIsAll : Type 0
TakenIsAll =
    (plan : Plan) (worker : ℕ) (history : List Event)
    → IsPlanned plan
    → is_legal plan history ≡ true
    → Appends plan worker history (taken plan worker history)

-- a take can append one list of events alone
abbrev pub AppendsOne : Type 0
AppendsOne =
    (plan : Plan) (worker : ℕ) (history one other : List Event)
    → Appends plan worker history one
    → Appends plan worker history other
    → one ≡ other

-- one worker over a right memory goes on until nothing may be started
abbrev pub SerialEnds : Type 0
SerialEnds = (plan : Plan) → IsPlanned plan → choice plan (serial_history plan) 0 ≡ None
