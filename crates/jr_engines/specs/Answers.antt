-- Believed: what one call of an engine for a ticket gave (of this project).
use Rattle.std.specs.Prelude.{ℕ, ◌+◌, ◌≤◌, ◌≡◌, length, List, Bool, true, false, IsTrue, if◌then◌else◌}
use Rattle.jr_model.specs.declared.events.Outcome.{Outcome}
use Rattle.jr_model.specs.declared.events.Outcome.TheVariants as outcome
use Rattle.jr_model.specs.declared.tickets.Ticket.{Ticket}
use Rattle.jr_model.specs.Legal.{outcome_fits}
use Rattle.jr_model.specs.Replies.{EngineState, Asked, asked, next_reply, covers}

-- an answer: what it answers, the buffer that the call left, and how it ended
pub record AnswerParts : Type 0 where
  pub ticket : Ticket
  pub bytes : List ℕ
  pub outcome : Outcome

-- the call failed
abbrev pub is_failed : Outcome → Bool
is_failed outcome.Failed = true
is_failed outcome.Whole = false
is_failed (outcome.Short n) = false

-- what a ticket's call leaves where the memory is known and covers its piece
abbrev pub asked_for : EngineState → Ticket → List ℕ → Asked
asked_for engine ticket buffer = asked (next_reply engine) engine.memory ticket.kind ticket.piece buffer

-- the answer and the memory after the call are these
pub record Leaves (left : Asked) (answer : AnswerParts) (new : EngineState) : Type 0 where
  pub outcome : answer.outcome ≡ left.outcome
  pub bytes : answer.bytes ≡ left.bytes
  pub memory : new.memory ≡ left.memory

-- the engine was called once for the request, and gave this answer; over a known memory that covers the piece it is as
-- left says
pub record AnswersBy (left : Asked) (old : EngineState) (request : Ticket) (buffer : List ℕ) (answer : AnswerParts) (new : EngineState) : Type 0 where
  pub ticket : answer.ticket ≡ request
  pub calls : new.calls ≡ old.calls + 1
  pub failures : new.failures ≡ (if is_failed answer.outcome then old.failures + 1 else old.failures)
  pub few : new.failures ≤ new.calls
  pub known : new.is_known ≡ old.is_known
  pub script : new.script ≡ old.script
  pub room : length answer.bytes ≡ length buffer
  pub fits : outcome_fits answer.outcome request.piece.len ≡ true
  pub by_reply :
      IsTrue old.is_known → IsTrue (covers old.memory request.piece.file request.piece.offset request.piece.len)
      → Leaves left answer new

-- the engine was called once, with the ticket's piece and the buffer, and gave this answer
abbrev pub Answers : EngineState → Ticket → List ℕ → AnswerParts → EngineState → Type 0
Answers old ticket buffer answer new = AnswersBy (asked_for old ticket buffer) old ticket buffer answer new
