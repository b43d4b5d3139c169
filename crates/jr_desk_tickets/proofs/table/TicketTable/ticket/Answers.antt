use Rattle.std.proofs.Common.{List, ℕ, ◌∙◌, ap}
use Rattle.std.specs.Prelude.{Option, Some}
use Rattle.std.specs.Option.{option_map}
use Rattle.jr_model.specs.declared.tickets.Ticket.{Ticket}
use Rattle.jr_desk_tickets.specs.Handing.{ticket_again}
use Rattle.jr_desk_tickets.proofs.HandingMoves.{ticket_found}
use Rattle.jr_desk_tickets.proofs.table.TicketTable.ticket.Goals as goal

pub returns-in-None : goal.returns-in-None
returns-in-None c history is =
    let again = ticket_again c.args.plan.now c.args.self.now.headers.items c.args.id in
    ap (option_map again) c.in-None.ensures
    ∙ ticket_found c.args.plan.now history c.args.self.now c.args.id is

pub returns-in-Some : goal.returns-in-Some
returns-in-Some c history is =
    let again = ticket_again c.args.plan.now c.args.self.now.headers.items c.args.id in
    ap {B = Option Ticket} Some
    (c.ticket.ensures
    ∙ ap (λ (hs : List (List ℕ)). ticket_again c.args.plan.now hs c.args.id c.in-Some.launch.now) c.deref.ensures.value)
    ∙ ap (option_map again) c.in-Some.ensures
    ∙ ticket_found c.args.plan.now history c.args.self.now c.args.id is
