-- Believed: what a run that answers a desk has done, with one worker and with several, whole or asked to stop (of this project).
use Rattle.std.specs.Prelude.{◌≡◌, ℕ, ◌+◌, true, false, List, length, slice_get, Option, Some, None}
use Rattle.std.specs.List.{list_all}
use Rattle.jr_model.specs.declared.events.Event.{Event}
use Rattle.jr_model.specs.Legal.{is_legal, is_complete}
use Rattle.jr_model.specs.Plan.{Plan}
use Rattle.jr_model.specs.Races.{has_raced}
use Rattle.jr_model.specs.Replies.{EngineState}
use Rattle.jr_desk_tickets.specs.Kept.{tickets_of}
use Rattle.jr_crew_books.specs.declared.books.Done.{Done}
use Rattle.jr_crew_books.specs.Books.{dones_of}
use Rattle.jr_crew_books.specs.Numbers.{judges_inline, is_own_verdict, is_numbered}
use Rattle.jr_crew_books.specs.Finished.{AllFinished}
use Rattle.jr_desk.specs.DeskState.{DeskState}
use Rattle.jr_crew.specs.Crews.{AreCallsFor, IsWorkers}
use Rattle.jr_crew.specs.Ends.{ends_of, failed_ends_of}
use Rattle.jr_crew.specs.Runs.{IsCovering, IsTiedRun}

-- the history is that of a run of one worker over an engine that was so before, and is so after: whole and legal, each event by
-- worker 0, one I/O after another, with a call for each end, each verdict that on the bytes of its call's answer, and where the
-- engine's memory is known these calls are what was completed
pub record IsRun (plan : Plan) (history : List Event) (before after : EngineState) : Type 0 where
  pub legal : is_legal plan history ≡ true
  pub complete : is_complete plan history ≡ true
  pub alone : list_all (is_numbered 1 0) history ≡ true
  pub unraced : (io : ℕ) → has_raced history io ≡ false
  pub called : AreCallsFor true before (dones_of plan true history 0) after
  pub calls : after.calls ≡ before.calls + ends_of history
  pub failures : after.failures ≡ before.failures + failed_ends_of history
  pub tied : IsCovering plan before → IsTiedRun plan history before after

-- the history is that of a run of many workers over engines that were so before, and are so after: whole and legal; each event is
-- of a worker, but the verdicts of verifiers, and where there are none each worker judged its own checks; and of each worker
-- there is a book, which is what the history says that it completed and what its engine was called for
pub record IsCrewRun (plan : Plan) (history : List Event) (befores afters : List EngineState) (books : List (List Done)) : Type 0 where
  pub legal : is_legal plan history ≡ true
  pub complete : is_complete plan history ≡ true
  pub numbered : list_all (is_numbered (length befores) plan.verifiers) history ≡ true
  pub own : judges_inline plan ≡ true → list_all (is_own_verdict (tickets_of plan history)) history ≡ true
  pub engines_count : length afters ≡ length befores
  pub books_count : length books ≡ length befores
  pub each : (i : ℕ) (before after : EngineState) (dones : List Done) → slice_get befores i ≡ Some before → slice_get afters i ≡ Some after
      → slice_get books i ≡ Some dones → IsWorkers plan history i before after dones

-- the same of a run that may have been asked to stop: what was started has come to its end, whether there was more to come or not
pub record IsEndedRun (plan : Plan) (history : List Event) (before after : EngineState) : Type 0 where
  pub legal : is_legal plan history ≡ true
  pub settled : AllFinished history
  pub alone : list_all (is_numbered 1 0) history ≡ true
  pub unraced : (io : ℕ) → has_raced history io ≡ false
  pub called : AreCallsFor true before (dones_of plan true history 0) after
  pub calls : after.calls ≡ before.calls + ends_of history
  pub failures : after.failures ≡ before.failures + failed_ends_of history
  pub tied : IsCovering plan before → IsTiedRun plan history before after

-- and of many workers
pub record IsEndedCrewRun (plan : Plan) (history : List Event) (befores afters : List EngineState) (books : List (List Done)) : Type 0 where
  pub legal : is_legal plan history ≡ true
  pub settled : AllFinished history
  pub numbered : list_all (is_numbered (length befores) plan.verifiers) history ≡ true
  pub own : judges_inline plan ≡ true → list_all (is_own_verdict (tickets_of plan history)) history ≡ true
  pub engines_count : length afters ≡ length befores
  pub books_count : length books ≡ length befores
  pub each : (i : ℕ) (before after : EngineState) (dones : List Done) → slice_get befores i ≡ Some before → slice_get afters i ≡ Some after
      → slice_get books i ≡ Some dones → IsWorkers plan history i before after dones

-- what a run of many workers answers: the desk is of this plan, all that was started has come to its end, and a run that is complete, or that
-- nobody can stop, is a whole one
pub record IsBooked {S : Type 0} (plan : Plan) (stop : Option S) (desk : DeskState) (befores afters : List EngineState) (books : List (List Done)) : Type 0 where
  pub planned : desk.plan ≡ plan
  pub ended : IsEndedCrewRun plan desk.history befores afters books
  pub run : is_complete plan desk.history ≡ true → IsCrewRun plan desk.history befores afters books
  pub unasked : stop ≡ None → is_complete plan desk.history ≡ true
