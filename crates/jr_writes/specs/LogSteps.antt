-- Believed: the entries that a list of settled writes and unsettled pieces leaves, and which such steps the ends of a
-- history's writes are (of this project).
use Rattle.std.specs.Prelude.{ℕ, Bool, not, ◌&&◌, List, [], Option, Some, None, slice_get, filter_map, fold, if◌then◌else◌}
use Rattle.jr_model.specs.declared.blocks.Piece.{Piece}
use Rattle.jr_model.specs.declared.contents.Expected.{Expected}
use Rattle.jr_model.specs.declared.events.Event.{Event}
use Rattle.jr_model.specs.declared.events.Event.TheVariants.{Issue, Probe, Skip, End, Verdict}
use Rattle.jr_model.specs.declared.events.Outcome.{Outcome}
use Rattle.jr_model.specs.declared.events.Started.{Started}
use Rattle.jr_model.specs.declared.events.WriteId.{WriteId}
use Rattle.jr_model.specs.History.{ended_whole, is_write, started}
use Rattle.jr_model.specs.Races.{has_raced}
use Rattle.jr_writes.specs.declared.logs.Logged.{Logged}
use Rattle.jr_writes.specs.LoggedWrites.{settled, unsettled}

-- a step of a log
pub data LogStep : Type 0 where
  settle : (write : WriteId) (piece : Piece) (expected : Expected) → LogStep
  unsettle : (piece : Piece) → LogStep

-- the entries after one step
abbrev pub after_step : List (WriteId × Logged) → LogStep → List (WriteId × Logged)
after_step entries (settle write piece expected) = settled entries write piece expected
after_step entries (unsettle piece) = unsettled entries piece

-- the entries after these steps, in order
abbrev pub log_of : List LogStep → List (WriteId × Logged)
log_of steps = fold after_step [] steps

-- the step that the end of an I/O is: a write that ended whole and didn't race is settled, with what its content is checked by,
-- and the piece of one that raced or ended otherwise is unsettled
abbrev pub step_at_end : (WriteId → Piece → Expected) → Bool → Option Started → Outcome → Option LogStep
step_at_end checked_by raced None outcome = None
step_at_end checked_by raced (Some io) outcome =
    if is_write io.kind
    then Some (if ended_whole (Some outcome) && not raced then settle io.write io.piece (checked_by io.write io.piece) else unsettle io.piece)
    else None

-- the step that an event is, where these I/Os are started and these of them raced
abbrev pub step_of : (WriteId → Piece → Expected) → (ℕ → Bool) → List Started → Event → Option LogStep
step_of checked_by raced ios (End worker io outcome) = step_at_end checked_by (raced io) (slice_get ios io) outcome
step_of checked_by raced ios (Issue worker dir write piece) = None
step_of checked_by raced ios (Probe worker write piece) = None
step_of checked_by raced ios (Skip worker write) = None
step_of checked_by raced ios (Verdict worker io verdict) = None

-- the steps that a history's events are, in their order
abbrev pub steps_of : (WriteId → Piece → Expected) → List Event → List LogStep
steps_of checked_by history = filter_map (step_of checked_by (has_raced history) (started history)) history
