-- Believed: the tickets of a history (of this project).
use Rattle.std.specs.Prelude.{◌≡◌, List, map, slice_get, Some}
use Rattle.std.specs.List.{enumerate_from}
use Rattle.jr_model.specs.declared.events.Event.{Event}
use Rattle.jr_model.specs.declared.tickets.Ticket.{Ticket}
use Rattle.jr_model.specs.History.{started}
use Rattle.jr_model.specs.Plan.{Plan}
use Rattle.jr_desk_tickets.specs.Tickets.{ticket_of}

-- the tickets of all that was started, in the order of their numbers
abbrev pub tickets_of : Plan → List Event → List Ticket
tickets_of plan history = map (ticket_of plan) (enumerate_from 0 (started history))

-- the ticket is the one that was handed out under its number
abbrev pub IsOwn : Plan → List Event → Ticket → Type 0
IsOwn plan history ticket = slice_get (tickets_of plan history) ticket.id ≡ Some ticket
