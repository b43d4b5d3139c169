use Rattle.std.proofs.Common.{◌≡◌, Bool, true, false, ◌||◌, List, sym, ◌∙◌, ap, subst}
use Rattle.std.specs.Prelude.{Option, length}
use Rattle.jr_model.specs.History.{started}
use Rattle.jr_model.specs.declared.tickets.Ticket.{Ticket}
use Rattle.jr_model.specs.declared.events.Event.{Event}
use Rattle.jr_model.specs.Legal.{is_complete}
use Rattle.jr_model.proofs.OptionLemmas.{on_error}
use Rattle.jr_desk_state.specs.declared.board.Board.{Board}
use Rattle.jr_desk_state.specs.declared.takes.Take.{Take}
use Rattle.jr_desk.specs.DeskState.{DeskState}
use Rattle.jr_desk_state.specs.Takes.{HandsOutOwn, answer_with, is_fitting, is_finished, WaitsRightly}
use Rattle.jr_desk_state.proofs.Answering.{answer_fits, answer_own, answer_waits, answer_finished}
use Rattle.jr_desk.proofs.desk.Desk.take.Goals as goal

pub returns-clause-fits : goal.returns-clause-fits
returns-clause-fits c =
    let plan = c.self.inside.plan in
    let before = c.prepare.new.board.history.items in
    let history = c.start_next-ticket.new.board.history.items in
    let taken = c.start_next-ticket.ensures.taken in
    ap is_fitting (c.answer_to.ensures ∙ ap (λ (t : Option Ticket). answer_with (is_complete plan history) t) taken.2)
    ∙ answer_fits plan c.args.worker before history taken.0 (is_complete plan history) c.prepare.ensures.board.planned c.prepare.ensures.board.legal taken.1

pub returns-clause-own : goal.returns-clause-own
returns-clause-own c =
    let plan = c.self.inside.plan in
    let before = c.prepare.new.board.history.items in
    let history = c.start_next-ticket.new.board.history.items in
    let taken = c.start_next-ticket.ensures.taken in
    subst (λ (a : Take). HandsOutOwn a)
    (sym (c.answer_to.ensures ∙ ap (λ (t : Option Ticket). answer_with (is_complete plan history) t) taken.2))
    (answer_own plan (length (started before)) taken.0 (is_complete plan history))

pub returns-clause-waits : goal.returns-clause-waits
returns-clause-waits c =
    let plan = c.self.inside.plan in
    let before = c.prepare.new.board.history.items in
    let history = c.start_next-ticket.new.board.history.items in
    let taken = c.start_next-ticket.ensures.taken in
    subst (λ (d : DeskState). WaitsRightly d.plan c.args.worker history c.answer_to.result) c.self.view_is
    (subst (λ (a : Take). WaitsRightly plan c.args.worker history a)
    (sym (c.answer_to.ensures ∙ ap (λ (t : Option Ticket). answer_with (is_complete plan history) t) taken.2))
    (answer_waits plan c.args.worker before history taken.0 c.prepare.ensures.board.planned c.prepare.ensures.board.legal taken.1))

pub returns-clause-finished : goal.returns-clause-finished
returns-clause-finished c =
    let plan = c.self.inside.plan in
    let before = c.prepare.new.board.history.items in
    let history = c.start_next-ticket.new.board.history.items in
    let taken = c.start_next-ticket.ensures.taken in
    let going : c.args.self.now.is_stopped ≡ false = ap (λ (d : DeskState). d.is_stopped) (sym c.self.view_is) ∙ c.if-self.false in
    ap is_finished (c.answer_to.ensures ∙ ap (λ (t : Option Ticket). answer_with (is_complete plan history) t) taken.2)
    ∙ answer_finished plan c.args.worker before history taken.0 c.prepare.ensures.board.planned c.prepare.ensures.board.legal taken.1
    ∙ ap (λ (d : DeskState). is_complete d.plan history) c.self.view_is
    ∙ ap (λ (b : Bool). b || is_complete c.args.self.now.plan history) (sym going)

pub returns-then-self-clause-finished : goal.returns-then-self-clause-finished
returns-then-self-clause-finished c =
    let desk = c.args.self.now in
    let stopped : desk.is_stopped ≡ true = ap (λ (d : DeskState). d.is_stopped) (sym c.self.view_is) ∙ c.if-self.true in
    sym (ap (λ (b : Bool). b || is_complete desk.plan desk.history) stopped)

pub returns-in_err-prepare-clause-err : goal.returns-in_err-prepare-clause-err
returns-in_err-prepare-clause-err c =
    on_error _ _ (ap (λ (history : List Event). record { plan = c.self.inside.plan; history = history; is_stopped = c.self.inside.is_stopped }) (c.prepare.ensures.history ∙ ap (λ (b : Board). b.history.items) c.deref_mut-board.ensures.value) ∙ c.self.view_is)

pub returns-clause-plan : goal.returns-clause-plan
returns-clause-plan c = ap (λ (d : DeskState). d.plan) c.self.view_is

pub returns-clause-stop : goal.returns-clause-stop
returns-clause-stop c = ap (λ (d : DeskState). d.is_stopped) c.self.view_is

pub start_next-ticket-requires-clause-ready : goal.start_next-ticket-requires-clause-ready
start_next-ticket-requires-clause-ready c = c.in_ok-prepare.ensures.ready
