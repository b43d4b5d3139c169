-- Claimed: the write log of a history has its intact writes; what each event makes of the log; which writes it can't have yet.
use Rattle.std.specs.Prelude.{◌≡◌, ◌<◌, ℕ, true, false, List, ◌∷◌, [], ◌++◌, Option, Some, None, slice_get, not, ◌&&◌, if◌then◌else◌}
use Rattle.jr_model.specs.declared.blocks.Piece.{Piece}
use Rattle.jr_model.specs.declared.contents.Expected.{Expected}
use Rattle.jr_model.specs.declared.events.Event.{Event}
use Rattle.jr_model.specs.declared.events.Started.{Started}
use Rattle.jr_model.specs.declared.events.WriteId.{WriteId}
use Rattle.jr_model.specs.declared.workloads.Draw.{Draw}
use Rattle.jr_model.specs.Draws.{draws_of_job}
use Rattle.jr_model.specs.History.{started, outcome_of, is_write, ended_whole}
use Rattle.jr_model.specs.LastWrite.{is_intact}
use Rattle.jr_model.specs.Legal.{is_legal, may_happen}
use Rattle.jr_model.specs.Plan.{Plan, SubJob, clone_of}
use Rattle.jr_model.specs.PlanFacts.{IsPlanned}
use Rattle.jr_model.specs.Races.{has_raced}
use Rattle.jr_writes.specs.declared.logs.Logged.{Logged}
use Rattle.jr_writes.specs.LoggedWrites.{logged}
use Rattle.jr_writes.specs.LogSteps.{log_of, steps_of, step_of, LogStep, after_step}

-- the log of a history, where the content of a write's piece is checked by this
abbrev pub log_after : (WriteId → Piece → Expected) → List Event → List (WriteId × Logged)
log_after checked_by history = log_of (steps_of checked_by history)

-- a write of this piece was started
pub record WasStarted (history : List Event) (write : WriteId) (piece : Piece) : Type 0 where
  pub place : ℕ
  pub io : Started
  pub at : slice_get (started history) place ≡ Some io
  pub kind : is_write io.kind ≡ true
  pub named : io.write ≡ write
  pub there : io.piece ≡ piece

-- the log has a write that was started where it is intact: its piece, and what that is checked by
abbrev pub LogIsIntact : Type 0
LogIsIntact =
    (plan : Plan) (history : List Event) (checked_by : WriteId → Piece → Expected) (write : WriteId) (piece : Piece)
    → IsPlanned plan
    → is_legal plan history ≡ true
    → WasStarted history write piece
    → logged (log_after checked_by history) write
    ≡ (if is_intact history write piece then Some (record { piece = piece; expected = checked_by write piece }) else None)

-- the same of each draw of a planned clone's passes, whether it was issued or not
abbrev pub LogIsIntactOfDraws : Type 0
LogIsIntactOfDraws =
    (plan : Plan) (history : List Event) (checked_by : WriteId → Piece → Expected) (write : WriteId) (job : SubJob) (draw : Draw)
    → IsPlanned plan
    → is_legal plan history ≡ true
    → clone_of plan write.clone ≡ Some job
    → write.pass < job.passes
    → slice_get (draws_of_job job write.pass) write.number ≡ Some draw
    → logged (log_after checked_by history) write
    ≡ (if is_intact history write draw.piece
    then Some (record { piece = draw.piece; expected = checked_by write draw.piece })
    else None)

-- the entry is of an intact write that was started, with what its piece is checked by
pub record IsOfIntact (checked_by : WriteId → Piece → Expected) (history : List Event) (write : WriteId) (entry : Logged) : Type 0 where
  pub begun : WasStarted history write entry.piece
  pub intact : is_intact history write entry.piece ≡ true
  pub expected : entry.expected ≡ checked_by write entry.piece

-- and it has nothing else
abbrev pub LoggedIsIntact : Type 0
LoggedIsIntact =
    (plan : Plan) (history : List Event) (checked_by : WriteId → Piece → Expected) (write : WriteId) (entry : Logged)
    → IsPlanned plan
    → is_legal plan history ≡ true
    → logged (log_after checked_by history) write ≡ Some entry
    → IsOfIntact checked_by history write entry

-- the entries after a step, where there is one
abbrev pub after_if : Option LogStep → List (WriteId × Logged) → List (WriteId × Logged)
after_if None entries = entries
after_if (Some step) entries = after_step entries step

-- an event that may happen adds the one step to the log that it is, where it is one
abbrev pub LogGrows : Type 0
LogGrows =
    (plan : Plan) (history : List Event) (event : Event) (checked_by : WriteId → Piece → Expected)
    → is_legal plan history ≡ true
    → may_happen plan history event ≡ true
    → log_after checked_by (history ++ event ∷ [])
    ≡ after_if (step_of checked_by (has_raced history) (started history) event) (log_after checked_by history)

-- a write that has not ended whole, or raced, isn't in the log
abbrev pub UnendedIsUnlogged : Type 0
UnendedIsUnlogged =
    (plan : Plan) (history : List Event) (checked_by : WriteId → Piece → Expected) (id : ℕ) (io : Started)
    → IsPlanned plan
    → is_legal plan history ≡ true
    → slice_get (started history) id ≡ Some io
    → is_write io.kind ≡ true
    → (ended_whole (outcome_of history id) && not (has_raced history id)) ≡ false
    → logged (log_after checked_by history) io.write ≡ None

-- what a write that was not started would be checked by makes no difference
abbrev pub LogIsByStarted : Type 0
LogIsByStarted =
    (history : List Event) (one other : WriteId → Piece → Expected)
    → ((id : ℕ) (io : Started) → slice_get (started history) id ≡ Some io → is_write io.kind ≡ true
    → one io.write io.piece ≡ other io.write io.piece)
    → log_after one history ≡ log_after other history
