use Rattle.std.proofs.Common.{◌∙◌}
use Rattle.jr_desk_tickets.proofs.HandingMoves.{launches_length}
use Rattle.jr_desk_tickets.proofs.table.TicketTable.count.Goals as goal

pub returns : goal.returns
returns c plan history is = c.len.ensures ∙ c.args.self.now.launches.ok.0 ∙ launches_length plan history c.args.self.now is
