use Rattle.std.proofs.Common.{sym, ap, ◌∙◌}
use Rattle.jr_model.specs.History.{started}
use Rattle.jr_report_faults.specs.Faults.{fault_by}
use Rattle.jr_report_faults.specs.Tickets.{ticket_fault}
use Rattle.jr_report_faults.proofs.FaultLemmas.{of_ticket}
use Rattle.jr_report_faults.proofs.faults.fault_by.Goals as goal

pub returns-in-End-2 : goal.returns-in-End-2
returns-in-End-2 c history handed =
    let end = c.in-End-2 in
    c.fault_with.ensures
    ∙ ap (ticket_fault end.outcome) (c.ticket.ensures history handed)
    ∙ of_ticket c.args.plan.now history end.io end.outcome
    ∙ sym (ap (fault_by (started history)) end.is)
