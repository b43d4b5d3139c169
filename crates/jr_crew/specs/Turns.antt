-- Internal: what one turn of a worker does, from a take to the end of what it started (of this project).
use Rattle.std.specs.Prelude.{◌≡◌, ℕ, true, false, List, [], ◌∷◌, ◌++◌, length, replicate, slice_get, Some, None, IsFalse, if◌then◌else◌}
use Rattle.jr_model.specs.declared.events.Event.{Event}
use Rattle.jr_model.specs.declared.events.Event.TheVariants.{End, Verdict}
use Rattle.jr_model.specs.declared.events.Outcome.{Outcome}
use Rattle.jr_model.specs.declared.events.Started.{Started}
use Rattle.jr_model.specs.declared.tickets.Ticket.{Ticket}
use Rattle.jr_model.specs.History.{started, outcome_of, is_judged}
use Rattle.jr_model.specs.Legal.{is_legal, is_complete}
use Rattle.jr_model.specs.Plan.{Plan}
use Rattle.jr_model.specs.Replies.{EngineState}
use Rattle.jr_model.specs.Tickets.{ticket_fits}
use Rattle.jr_model.specs.PlanFacts.{IsPlanned}
use Rattle.jr_model.specs.Races.{has_raced}
use Rattle.jr_engines.specs.Answers.{AnswerParts, Answers}
use Rattle.jr_header.specs.Served.{ExpectsOwn, asked_with, is_whole_check, is_to_judge, answer_verdict}
use Rattle.jr_desk_tickets.specs.Kept.{IsOwn}
use Rattle.jr_desk_tickets.specs.Tickets.{ticket_of}
use Rattle.jr_desk.specs.DeskState.{DeskState}
use Rattle.jr_desk_state.specs.Takes.{IsChosen}

-- it has ended, and where it is a check that ended whole it has its verdict
pub record IsSettled (history : List Event) (id : ℕ) (io : Started) : Type 0 where
  pub outcome : Outcome
  pub ended : outcome_of history id ≡ Some outcome
  pub judged : is_whole_check io.kind outcome ≡ true → is_judged history id ≡ true

-- so is all that was started
abbrev pub AreSettled : List Event → Type 0
AreSettled history = (id : ℕ) (io : Started) → slice_get (started history) id ≡ Some io → IsSettled history id io

-- between two turns all that was started is settled
pub record IsBetweenTurns (desk : DeskState) : Type 0 where
  pub planned : IsPlanned desk.plan
  pub legal : is_legal desk.plan desk.history ≡ true
  pub settled : AreSettled desk.history
  pub going : IsFalse desk.is_stopped

-- the ticket was handed out by the desk, can be carried out, has neither ended nor its verdict, and didn't race
pub record IsOpen (desk : DeskState) (ticket : Ticket) : Type 0 where
  pub own : IsOwn desk.plan desk.history ticket
  pub fits : ticket_fits ticket ≡ true
  pub expects : ExpectsOwn ticket
  pub unended : outcome_of desk.history ticket.id ≡ None
  pub unjudged : is_judged desk.history ticket.id ≡ false
  pub unraced : has_raced desk.history ticket.id ≡ false
  pub going : IsFalse desk.is_stopped

-- the verdict that worker 0 appends, where the answer is to be judged
abbrev pub judged_by : AnswerParts → List Event
judged_by answer =
    if is_to_judge answer then (Verdict 0 answer.ticket.id (answer_verdict answer) ∷ []) else []

-- what worker 0 appends for an answer: its end, and its verdict where it is a check that ended whole
abbrev pub ended_by : AnswerParts → List Event
ended_by answer = End answer.ticket.worker answer.ticket.id answer.outcome ∷ judged_by answer

-- the ticket was carried out by one call of the engine, with a buffer of zeros or the write's bytes
pub record IsCarriedOut (ticket : Ticket) (before after : List Event) (old new : EngineState) : Type 0 where
  pub answer : AnswerParts
  pub asked : Answers old ticket (asked_with ticket.kind ticket (replicate ticket.piece.len 0)) answer new
  pub history : after ≡ before ++ ended_by answer

-- an I/O or check was chosen, started, and carried out
pub record IsTurn (plan : Plan) (before after : List Event) (old new : EngineState) : Type 0 where
  pub io : Started
  pub begun : List Event
  pub chosen : IsChosen plan 0 before begun (Some io)
  pub carried : IsCarriedOut (ticket_of plan (length (started before), io)) begun after old new

-- nothing is left to start, and the run is complete
pub record IsLastTurn (plan : Plan) (before after : List Event) (old new : EngineState) : Type 0 where
  pub chosen : IsChosen plan 0 before after None
  pub complete : is_complete plan after ≡ true
  pub engine : new ≡ old
