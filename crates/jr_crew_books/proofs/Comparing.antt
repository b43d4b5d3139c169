-- What a book is compared with: the methods of a plan's clones, and what is kept of the tickets that were handed out.
use Rattle.std.proofs.Common.{◌≡◌, ℕ, List, sym, ◌∙◌, ap}
use Rattle.std.specs.Prelude.{Option, Some, None, slice_get}
use Rattle.std.specs.Option.{option_map}
use Rattle.std.proofs.lemmas.Option.{same_Some, slice_get-map}
use Rattle.jr_model.specs.declared.contents.Method.{Method}
use Rattle.jr_model.specs.declared.events.Event.{Event}
use Rattle.jr_model.specs.declared.tickets.Ticket.{Ticket}
use Rattle.jr_model.specs.Plan.{Plan, SubJob, clone_of}
use Rattle.jr_desk_tickets.specs.declared.launches.Launch.{Launch}
use Rattle.jr_desk_tickets.specs.declared.table.TicketTable.{TicketTable}
use Rattle.jr_desk_tickets.specs.Handing.{IsHanded, ticket_again}
use Rattle.jr_desk_tickets.specs.Kept.{tickets_of}
use Rattle.jr_desk_tickets.specs.Tickets.{method_of}
use Rattle.jr_desk_tickets.proofs.HandingMoves.{ticket_found}
use Rattle.jr_crew_books.specs.Accounts.{AreMethodsOf}

method_from : (job : Option SubJob) (method : Method) → option_map (λ (j : SubJob). j.method) job ≡ Some method → method_of job ≡ method
method_from None method is = cc
method_from (Some job) method is = same_Some job.method method is

-- the method in the list is that of the clone
pub method_got : (plan : Plan) (methods : List Method) (clone : ℕ) (method : Method) → AreMethodsOf plan methods → slice_get methods clone ≡ Some method → method_of (clone_of plan clone) ≡ method
method_got plan methods clone method are at =
    method_from (slice_get plan.clones clone) method
    (sym (slice_get-map (λ (j : SubJob). j.method) plan.clones clone) ∙ ap (λ (ms : List Method). slice_get ms clone) (sym are) ∙ at)

-- a ticket that is made again of what is kept under its number is the one that was handed out
pub launched_own : (plan : Plan) (history : List Event) (handed : TicketTable) (id : ℕ) (launch : Launch) (ticket : Ticket) → IsHanded plan history handed → Some launch ≡ slice_get handed.launches.items id → ticket_again plan handed.headers.items id launch ≡ ticket → slice_get (tickets_of plan history) id ≡ Some ticket
launched_own plan history handed id launch ticket is at same =
    sym (ticket_found plan history handed id is)
    ∙ ap (option_map (ticket_again plan handed.headers.items id)) (sym at)
    ∙ ap {B = Option Ticket} Some same
