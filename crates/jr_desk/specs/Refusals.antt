-- Believed: which calls on a ticket a desk refuses (of this project).
use Rattle.std.specs.Prelude.{ℕ, Bool, true, false, is_none, Option, Some, None, if◌then◌else◌}
use Rattle.jr_model.specs.declared.steps.DeskFault.{DeskFault}
use Rattle.jr_model.specs.declared.steps.DeskFault.TheVariants.{Stranger, Twice, WrongKind, Stopped}
use Rattle.jr_model.specs.declared.tickets.Ticket.{Ticket}
use Rattle.jr_model.specs.History.{outcome_of, is_judged, ended_whole}
use Rattle.jr_desk_tickets.specs.Kept.{IsOwn}
use Rattle.jr_desk.specs.DeskState.{DeskState}

-- whether the ticket is the desk's own
abbrev pub Owns : DeskState → Ticket → Bool → Type 0
Owns desk ticket true = IsOwn desk.plan desk.history ticket
Owns desk ticket false = ¬ (IsOwn desk.plan desk.history ticket)

-- why an end of I/O number io is refused, if it is, where its ticket is the desk's own or not
abbrev pub end_fault : DeskState → ℕ → Bool → Option DeskFault
end_fault desk io own =
    if desk.is_stopped then Some Stopped
    else (if own
    then (if is_none (outcome_of desk.history io) then None else Some Twice)
    else Some Stranger)

-- why a verdict on check number io is refused, if it is
abbrev pub judge_fault : DeskState → ℕ → Bool → Option DeskFault
judge_fault desk io own =
    if desk.is_stopped then Some Stopped
    else (if own
    then (if is_judged desk.history io then Some Twice
    else (if ended_whole (outcome_of desk.history io) then None else Some WrongKind))
    else Some Stranger)
