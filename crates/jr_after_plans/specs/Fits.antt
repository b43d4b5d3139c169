-- Believed: a write of a plan can be carried out (of this project).
use Rattle.std.specs.Prelude.{◌≡◌, true, All}
use Rattle.jr_model.specs.Plan.{Plan}
use Rattle.jr_model.specs.PlanFacts.{IsPlanned}
use Rattle.jr_model.specs.Tickets.{ticket_fits}
use Rattle.jr_after.specs.declared.writes.PlannedWrite.{PlannedWrite}
use Rattle.jr_after.specs.Parts.{ticket_of}
use Rattle.jr_after.specs.Writes.{writes_of}

abbrev pub CanBeWritten : PlannedWrite → Type 0
CanBeWritten planned = ticket_fits (ticket_of planned) ≡ true

-- each write of a plan can
abbrev pub WritesFit : Type 0
WritesFit = (plan : Plan) → IsPlanned plan → All CanBeWritten (writes_of plan)
