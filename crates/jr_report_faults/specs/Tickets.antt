-- Internal: the fault that a ticket's I/O is.
use Rattle.std.specs.Prelude.{Option, Some, None, if◌then◌else◌}
use Rattle.jr_model.specs.declared.events.Outcome.{Outcome}
use Rattle.jr_model.specs.declared.tickets.Ticket.{Ticket}
use Rattle.jr_model.specs.Legal.{is_fault}
use Rattle.jr_report_faults.specs.declared.faults.Fault.{Fault}

-- what was handed out by a ticket, where it ended in a fault
abbrev pub ticket_fault : Outcome → Option Ticket → Option Fault
ticket_fault outcome None = None
ticket_fault outcome (Some t) =
    if is_fault outcome
    then Some (record { kind = t.kind; write = t.write; piece = t.piece; outcome = outcome })
    else None
