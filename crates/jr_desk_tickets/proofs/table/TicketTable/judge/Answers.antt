use Rattle.std.proofs.Common.{refl}
use Rattle.jr_desk_tickets.proofs.HandingMoves.{handed_verdict}
use Rattle.jr_desk_tickets.proofs.table.TicketTable.judge.Goals as goal

pub returns : goal.returns
returns c plan history worker verdict next is =
    handed_verdict plan history worker c.args.id verdict c.args.self.now _ next refl refl refl is
