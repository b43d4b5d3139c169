use Rattle.std.proofs.Common.{◌∙◌, ap}
use Rattle.std.specs.Option.{option_map}
use Rattle.jr_desk_tickets.specs.declared.launches.Launch.{Launch}
use Rattle.jr_desk_tickets.proofs.HandingMoves.{worker_found}
use Rattle.jr_desk_tickets.proofs.table.TicketTable.worker.Goals as goal

pub returns-in-None : goal.returns-in-None
returns-in-None c plan history is =
    ap (option_map (λ (launch : Launch). launch.worker)) c.in-None.ensures
    ∙ worker_found plan history c.args.self.now c.args.id is

pub returns-in-Some : goal.returns-in-Some
returns-in-Some c plan history is =
    ap (option_map (λ (launch : Launch). launch.worker)) c.in-Some.ensures
    ∙ worker_found plan history c.args.self.now c.args.id is
