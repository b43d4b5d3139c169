use Rattle.std.proofs.Common.{ℕ, [], ◌∷◌, ◌++◌, ◌∙◌, ap}
use Rattle.jr_desk_tickets.specs.declared.launches.Launch.{Launch}
use Rattle.jr_desk_tickets.specs.Handing.{launch_of}
use Rattle.jr_desk_tickets.proofs.HandingMoves.{handed_starts}
use Rattle.jr_desk_tickets.proofs.table.TicketTable.hand.Goals as goal

pub returns : goal.returns
returns c plan history event io next starts is handed =
    let before = c.args.self.now in
    let ticket = c.args.ticket.now in
    handed_starts plan history event io before _ ticket next starts is
    (c.push_reserved.ensures.items
    ∙ ap (λ (launch : Launch). before.launches.items ++ launch ∷ [])
    (c.of.ensures ∙ ap (λ (n : ℕ). launch_of n ticket) (c.len-headers.ensures ∙ before.headers.ok.0)))
    c.keep_header.ensures c.push_reserved-2.ensures.items handed
