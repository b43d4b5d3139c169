-- Internal: what a worker's own book says of the answers of its engine, and what it handed over (of this project).
use Rattle.std.specs.Prelude.{◌≡◌, ◌<◌, ℕ, Bool, true, List, [], ◌∷◌, ◌++◌, length, replicate, slice_index_or, if◌then◌else◌, ⊤, Result, IfOk}
use Rattle.jr_model.specs.declared.tickets.Ticket.{Ticket}
use Rattle.jr_model.specs.Replies.{EngineState}
use Rattle.jr_model.specs.Tickets.{ticket_fits}
use Rattle.jr_engines.specs.Answers.{AnswerParts, Answers}
use Rattle.jr_crew_channel.specs.declared.parcel.PassState.{PassState}
use Rattle.jr_crew_channel.specs.declared.parcel.Parcel.TheVariants.{Check}
use Rattle.jr_crew_channel.specs.PassStates.{with_put}
use Rattle.jr_header.specs.Served.{ExpectsOwn, asked_with, is_to_judge}
use Rattle.jr_crew_threads.specs.Parts.{one_part}
use Rattle.jr_crew_books.specs.declared.books.Done.{Done}
use Rattle.jr_crew.specs.Crews.{IsSaidOf}
use Rattle.jr_crew.specs.declared.held.NextTicket.{NextTicket}
use Rattle.jr_crew.specs.declared.held.NextTicket.TheVariants as start

-- what a worker has put into the hand-over once this is settled: one parcel more where a check that ended whole is for others
abbrev pub handed_on : Bool → AnswerParts → PassState → PassState
handed_on inline answer before = if is_to_judge answer then (if inline then before else with_put before (Check answer)) else before

-- the same of several, one after another
abbrev pub all_handed_on : Bool → List AnswerParts → PassState → PassState
all_handed_on inline [] before = before
all_handed_on inline (answer ∷ answers) before = all_handed_on inline answers (handed_on inline answer before)

-- an engine can be asked for it
abbrev pub CanBeServed : Ticket → Type 0
CanBeServed ticket = (ticket_fits ticket ≡ true) × ExpectsOwn ticket

-- what was started can
abbrev pub CanStart : NextTicket → Type 0
CanStart (start.Ticket ticket) = CanBeServed ticket
CanStart (start.Nothing step) = ⊤

-- the engine was asked for the answer's ticket, with a buffer of zeros or the write's bytes
abbrev pub IsAnswered : EngineState → AnswerParts → EngineState → Type 0
IsAnswered before answer after =
    Answers before answer.ticket (asked_with answer.ticket.kind answer.ticket (replicate answer.ticket.piece.len 0)) answer after

-- and for several, one after another
abbrev pub AreAnswered : EngineState → List AnswerParts → EngineState → Type 0
AreAnswered before [] after = after ≡ before
AreAnswered before (answer ∷ answers) after =
    (middle : EngineState) × IsAnswered before answer middle × AreAnswered middle answers after

-- what a book says of an answer: its ticket, how it ended, and the verdict where the worker judges
pub record IsDoneOf (inline : Bool) (answer : AnswerParts) (done : Done) : Type 0 where
  pub ticket : done.ticket ≡ answer.ticket
  pub outcome : done.outcome ≡ answer.outcome
  pub verdict : IsSaidOf inline answer done.verdict

-- the book has the same items as before, and then one for each answer
abbrev pub AreDone : Bool → List AnswerParts → List Done → List Done → Type 0
AreDone inline [] old new = new ≡ old
AreDone inline (answer ∷ answers) old new =
    (done : Done) × IsDoneOf inline answer done × AreDone inline answers (old ++ done ∷ []) new

-- what a worker did: its engine gave these answers, one after another, its book has them, and those for others it handed over
pub record IsWork (inline : Bool) (before : EngineState) (old : PassState) (book : List Done) (after : EngineState) (new : PassState) : Type 0 where
  pub answers : List AnswerParts
  pub answered : AreAnswered before answers after
  pub done : AreDone inline answers [] book
  pub handed : new ≡ all_handed_on inline answers old

-- what each of these workers did: its engine began and ended so, and with its part of the hand-over and its book, if it has one, that is work
pub record AreWorks {J W F : Type 0} (inline : Bool) (jobs : List J) (worked : List W) (start : J → EngineState) (finish : W → EngineState) (book_of : W → Result (List Done) F) (pass_of : W → PassState) : Type 0 where
  pub each : (i : ℕ) (j : J) (w : W) → i < length jobs
      → IfOk (book_of (slice_index_or worked i w)) (λ book. IsWork inline (start (slice_index_or jobs i j)) one_part book
      (finish (slice_index_or worked i w)) (pass_of (slice_index_or worked i w)))
