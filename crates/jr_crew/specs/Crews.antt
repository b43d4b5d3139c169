-- Believed: what a run has of each worker: its book, and what was done to its engine (of this project).
use Rattle.std.specs.Prelude.{◌≡◌, ℕ, ◌+◌, Bool, true, false, ◌&&◌, List, [], ◌∷◌, length, count_by, replicate, Option, Some, None, if◌then◌else◌}
use Rattle.jr_model.specs.declared.events.Event.{Event}
use Rattle.jr_model.specs.declared.events.Verdict.{Verdict}
use Rattle.jr_model.specs.Legal.{is_void}
use Rattle.jr_model.specs.Plan.{Plan}
use Rattle.jr_model.specs.Replies.{EngineState}
use Rattle.jr_model.specs.Tied.{IsTied}
use Rattle.jr_engines.specs.Answers.{AnswerParts, Answers, is_failed}
use Rattle.jr_header.specs.Served.{asked_with, is_to_judge, answer_verdict}
use Rattle.jr_crew_books.specs.declared.books.Done.{Done}
use Rattle.jr_crew_books.specs.Books.{dones_of}
use Rattle.jr_crew_books.specs.Numbers.{judges_inline}
use Rattle.jr_crew.specs.Runs.{known_engine, IsCovering}

-- it failed
abbrev pub is_failed_done : Done → Bool
is_failed_done done = is_failed done.outcome

-- this is said of an answer: nothing where it isn't judged, and else its verdict, unless the check raced
pub record IsSaidOf (judged : Bool) (answer : AnswerParts) (verdict : Option Verdict) : Type 0 where
  pub said : Verdict
  pub true_of : is_void said ≡ false → said ≡ answer_verdict answer
  pub is : verdict ≡ (if judged && is_to_judge answer then Some said else None)

-- the engine was called once for what was done, with a buffer of zeros or the write's bytes; the outcome is the answer's, and
-- so is the verdict where it is judged and the check didn't race
pub record IsCalledFor (judged : Bool) (before : EngineState) (done : Done) (after : EngineState) : Type 0 where
  pub answer : AnswerParts
  pub asked : Answers before done.ticket (asked_with done.ticket.kind done.ticket (replicate done.ticket.piece.len 0)) answer after
  pub outcome : done.outcome ≡ answer.outcome
  pub verdict : IsSaidOf judged answer done.verdict

-- the engine was called for each of these, one after another
abbrev pub AreCallsFor : Bool → EngineState → List Done → EngineState → Type 0
AreCallsFor judged before [] after = after ≡ before
AreCallsFor judged before (done ∷ dones) after =
    (middle : EngineState) × IsCalledFor judged before done middle × AreCallsFor judged middle dones after

-- the engine's calls are what this worker completed, with the history's verdicts
abbrev pub IsTiedTo : Plan → List Event → ℕ → EngineState → EngineState → Type 0
IsTiedTo plan history worker before after =
    (read_back : List (ℕ × List ℕ)) × IsTied plan true history worker (known_engine before []) (known_engine after read_back)

-- what it completed is what the history says; its engine was called once for each of these, and each verdict on them, whoever gave it, is
-- that on the bytes of the call's answer, unless the check raced; its counts are of these calls; and where the engine's memory is known
-- and covers the plan's files, its calls are these
pub record IsWorkers (plan : Plan) (history : List Event) (worker : ℕ) (before after : EngineState) (dones : List Done) : Type 0 where
  pub book : dones ≡ dones_of plan (judges_inline plan) history worker
  pub called : AreCallsFor true before (dones_of plan true history worker) after
  pub calls : after.calls ≡ before.calls + length dones
  pub failures : after.failures ≡ before.failures + count_by is_failed_done dones
  pub tied : IsCovering plan before → IsTiedTo plan history worker before after
