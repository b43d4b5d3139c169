-- Believed: the desk of a state of the machine (of this project).
use Rattle.jr_model.specs.Machine.{State}
use Rattle.jr_model.specs.Plan.{Plan}
use Rattle.jr_desk.specs.DeskState.{DeskState}

-- the desk has the state's history, and was stopped where the machine was
abbrev pub desk_in : Plan → State → DeskState
desk_in plan s = record { plan = plan; history = s.history; is_stopped = s.is_stopped }
