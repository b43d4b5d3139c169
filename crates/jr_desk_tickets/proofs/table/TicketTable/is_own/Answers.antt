use Rattle.std.proofs.Common.{◌≡◌, List, ℕ, sym, ◌∙◌, ap}
use Rattle.std.specs.Prelude.{Option, Some, None, slice_get}
use Rattle.std.specs.Option.{option_map}
use Rattle.std.proofs.lemmas.Option.{same_Some}
use Rattle.jr_model.specs.declared.tickets.Ticket.{Ticket}
use Rattle.jr_model.specs.declared.events.Event.{Event}
use Rattle.jr_model.specs.Plan.{Plan}
use Rattle.jr_desk_tickets.specs.declared.launches.Launch.{Launch}
use Rattle.jr_desk_tickets.specs.declared.table.TicketTable.{TicketTable}
use Rattle.jr_desk_tickets.specs.Handing.{IsHanded, ticket_again}
use Rattle.jr_desk_tickets.specs.Kept.{tickets_of}
use Rattle.jr_desk_tickets.proofs.HandingMoves.{ticket_found}
use Rattle.jr_desk_tickets.proofs.table.TicketTable.is_own.Goals as goal

none_own : (t : Ticket) → None ≡ Some t → ⊥
none_own t h = cc

-- the ticket of a number is that which is made again of what is kept of it, if anything is
made_again : (plan : Plan) (history : List Event) (handed : TicketTable) (id : ℕ) (kept : Option Launch) → IsHanded plan history handed → kept ≡ slice_get handed.launches.items id → option_map (ticket_again plan handed.headers.items id) kept ≡ slice_get (tickets_of plan history) id
made_again plan history handed id kept is found =
    ap (option_map (ticket_again plan handed.headers.items id)) found ∙ ticket_found plan history handed id is

pub returns-in-None-clause-no : goal.returns-in-None-clause-no
returns-in-None-clause-no c history is is_false own =
    none_own c.args.ticket.now
    (made_again c.args.plan.now history c.args.self.now c.args.ticket.now.id None is c.in-None.ensures ∙ own)

pub returns-in-Some-clause-yes : goal.returns-in-Some-clause-yes
returns-in-Some-clause-yes c history is is_true =
    sym (made_again c.args.plan.now history c.args.self.now c.args.ticket.now.id (Some c.in-Some.launch.now) is c.in-Some.ensures)
    ∙ ap {B = Option Ticket} Some
    (sym (ap (λ (hs : List (List ℕ)). ticket_again c.args.plan.now hs c.args.ticket.now.id c.in-Some.launch.now) c.deref.ensures.value)
    ∙ c.is_of.ensures.yes is_true)

pub returns-in-Some-clause-no : goal.returns-in-Some-clause-no
returns-in-Some-clause-no c history is is_false own =
    c.is_of.ensures.no is_false
    (ap (λ (hs : List (List ℕ)). ticket_again c.args.plan.now hs c.args.ticket.now.id c.in-Some.launch.now) c.deref.ensures.value
    ∙ same_Some (ticket_again c.args.plan.now c.args.self.now.headers.items c.args.ticket.now.id c.in-Some.launch.now) c.args.ticket.now
    (made_again c.args.plan.now history c.args.self.now c.args.ticket.now.id (Some c.in-Some.launch.now) is c.in-Some.ensures
    ∙ own))
