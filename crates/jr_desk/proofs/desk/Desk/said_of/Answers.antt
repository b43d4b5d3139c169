-- What is said is nothing where the check raced, and else the ruling's verdict.
use Rattle.std.proofs.Common.{◌≡◌, Bool, true, false, List, sym, ◌∙◌, ap, subst}
use Rattle.jr_model.specs.declared.events.Event.{Event}
use Rattle.jr_model.specs.declared.tickets.Ticket.{Ticket}
use Rattle.jr_model.specs.History.{outcome_of, is_judged, ended_whole}
use Rattle.jr_model.specs.Machine.{said_of}
use Rattle.jr_model.specs.Races.{has_raced}
use Rattle.jr_engines.specs.Answers.{AnswerParts}
use Rattle.jr_header.specs.Served.{answer_verdict}
use Rattle.jr_desk.specs.DeskState.{DeskState}
use Rattle.jr_desk.proofs.Boxed.{handed}
use Rattle.jr_desk.proofs.desk.Desk.said_of.Goals as goal

-- a check that ended whole and has no verdict has raced or not, as this says
abbrev SaysRace : Bool → List Event → Ticket → Type 0
SaysRace race history t = ended_whole (outcome_of history t.id) ≡ true → is_judged history t.id ≡ false → race ≡ has_raced history t.id

-- and so it is of the same history and ticket
says_race : (race : Bool) (events history : List Event) (t u : Ticket) → SaysRace race events t → events ≡ history → t ≡ u → SaysRace race history u
says_race race events history t u says same_events same_ticket =
    subst (SaysRace race history) same_ticket (subst (λ (h : List Event). SaysRace race h t) same_events says)

pub returns-then-has_raced-clause-verdict : goal.returns-then-has_raced-clause-verdict
returns-then-has_raced-clause-verdict c whole unjudged =
    let inside = c.self.inside in
    let same : c.ticket.result.now ≡ c.args.ruling.now.ticket = c.ticket.ensures.value ∙ ap (λ (a : AnswerParts). a.ticket) c.served.ensures.value in
    let race = says_race c.has_raced.result inside.board.value.history.items c.args.self.now.history c.ticket.result.now c.args.ruling.now.ticket
    (c.has_raced.ensures inside.plan inside.board.value.history.items c.self.invariant.legal (handed inside.plan inside.board.value c.deref.result.now c.deref.ensures c.self.invariant.tickets))
    (ap (λ (d : DeskState). d.history) c.self.view_is) same whole unjudged in
    ap (λ (b : Bool). said_of b (answer_verdict c.args.ruling.now)) (sym c.if-has_raced.true ∙ race)

pub returns-else-has_raced-clause-verdict : goal.returns-else-has_raced-clause-verdict
returns-else-has_raced-clause-verdict c whole unjudged =
    let inside = c.self.inside in
    let same : c.ticket.result.now ≡ c.args.ruling.now.ticket = c.ticket.ensures.value ∙ ap (λ (a : AnswerParts). a.ticket) c.served.ensures.value in
    let race = says_race c.has_raced.result inside.board.value.history.items c.args.self.now.history c.ticket.result.now c.args.ruling.now.ticket
    (c.has_raced.ensures inside.plan inside.board.value.history.items c.self.invariant.legal (handed inside.plan inside.board.value c.deref.result.now c.deref.ensures c.self.invariant.tickets))
    (ap (λ (d : DeskState). d.history) c.self.view_is) same whole unjudged in
    c.verdict.ensures.value ∙ ap (λ (b : Bool). said_of b (answer_verdict c.args.ruling.now)) (sym c.if-has_raced.false ∙ race)
