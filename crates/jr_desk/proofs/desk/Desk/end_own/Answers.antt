use Rattle.std.proofs.Common.{◌≡◌, true, sym, subst}
use Rattle.std.specs.Prelude.{None}
use Rattle.jr_model.specs.declared.events.Event.TheVariants.{End}
use Rattle.jr_model.specs.declared.events.Outcome.{Outcome}
use Rattle.jr_model.specs.declared.tickets.Ticket.{Ticket}
use Rattle.jr_model.specs.History.{outcome_of}
use Rattle.jr_model.specs.Legal.{may_happen, outcome_fits}
use Rattle.jr_desk.specs.DeskState.{DeskState}
use Rattle.jr_desk_state.proofs.Keeping.{may_end}
use Rattle.jr_desk_tickets.specs.Kept.{IsOwn}
use Rattle.jr_desk.specs.Refusals.{end_fault}
use Rattle.jr_desk.proofs.Boxed.{lent_may}
use Rattle.jr_desk.proofs.Refusing.{end_accepts, none_from}
use Rattle.jr_desk.proofs.desk.Desk.end_own.Goals as goal

pub end-requires-clause-may : goal.end-requires-clause-may
end-requires-clause-may c =
    let ticket = c.ticket-ticket.result.now in
    let fits : outcome_fits c.outcome.result ticket.piece.len ≡ true =
    subst (λ (o : Outcome). outcome_fits o ticket.piece.len ≡ true) (sym c.outcome.ensures.value)
    (subst (λ (t : Ticket). outcome_fits c.args.served.now.outcome t.piece.len ≡ true) (sym c.ticket-ticket.ensures.value) c.outcome.ensures.fits) in
    let event = End ticket.worker ticket.id c.outcome.result in
    lent_may c.self.inside.plan c.self.inside.board.value c.deref_mut.result.now event c.deref_mut.ensures.value
    (subst (λ (d : DeskState). may_happen d.plan d.history event ≡ true) (sym c.self.view_is)
    (may_end c.args.self.now.plan c.args.self.now.history ticket c.outcome.result c.in_ok-check_flying.ensures.own
    (none_from (outcome_of c.args.self.now.history ticket.id) c.in_ok-check_flying.ensures.flying) fits))

pub returns-in_err-check_flying-clause-taken_in : goal.returns-in_err-check_flying-clause-taken_in
returns-in_err-check_flying-clause-taken_in c own free =
    let desk = c.args.self.now in
    absurd (c.in_err-check_flying.ensures.taken_in
    (subst (λ (t : Ticket). IsOwn desk.plan desk.history t) (sym c.ticket-ticket.ensures.value) own)
    (subst (λ (t : Ticket). end_fault desk t.id true ≡ None) (sym c.ticket-ticket.ensures.value) free))

pub returns-in_err-end-clause-refused : goal.returns-in_err-end-clause-refused
returns-in_err-end-clause-refused c =
    end_accepts _ c.args.self.now c.ticket-ticket.result.now c.args.served.now.ticket _ c.ticket-ticket.ensures.value
    c.in_ok-check_flying.ensures.refused

pub returns-clause-refused : goal.returns-clause-refused
returns-clause-refused c =
    end_accepts _ c.args.self.now c.ticket-ticket.result.now c.args.served.now.ticket _ c.ticket-ticket.ensures.value
    c.in_ok-check_flying.ensures.refused
