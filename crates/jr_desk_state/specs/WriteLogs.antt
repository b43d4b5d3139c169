-- Internal: the intact writes of a run in the files that a clone checks, with what their checks are judged by.
use Rattle.std.specs.Prelude.{◌≡◌, ℕ, Bool, ◌&&◌, ◌==◌, List, Option, Some, length, map, filter, slice_get}
use Rattle.std.specs.List.{list_any, range_with_len}
use Rattle.std.specs.Option.{option_map}
use Rattle.jr_model.specs.declared.blocks.Piece.{Piece}
use Rattle.jr_model.specs.declared.contents.Expected.{Expected}
use Rattle.jr_model.specs.declared.contents.Expected.TheVariants.{Nothing}
use Rattle.jr_model.specs.declared.events.Event.{Event}
use Rattle.jr_model.specs.declared.events.Event.TheVariants.{Issue, Probe, Skip, End, Verdict}
use Rattle.jr_model.specs.declared.events.WriteId.{WriteId}
use Rattle.jr_model.specs.Content.{expected_of}
use Rattle.jr_model.specs.Draws.{draws_of}
use Rattle.jr_model.specs.Machine.{seed_of_draw}
use Rattle.jr_model.specs.Plan.{Plan, SubJob, clone_of}
use Rattle.jr_model.specs.Rounds.{has_rounds}
use Rattle.jr_writes.specs.declared.logs.Logged.{Logged}
use Rattle.jr_writes.specs.LoggedWrites.{logged}
use Rattle.jr_laws_log.specs.Intact.{log_after}
use Rattle.jr_desk_tickets.specs.Tickets.{method_of}
use Rattle.jr_desk_state.specs.declared.written.CheckedLog.{CheckedLog}

-- what a check of a write of the plan is judged by
abbrev pub checked_by : Plan → WriteId → Piece → Expected
checked_by plan write piece =
    let method = method_of (clone_of plan write.clone) in
    expected_of method.kind method write piece (seed_of_draw (slice_get (draws_of plan write.clone write.pass) write.number))

-- the clone checks what it writes to this file
abbrev pub checks_in : ℕ → SubJob → Bool
checks_in file job = has_rounds job && (job.file == file)

-- some clone does
abbrev pub is_checked_file : Plan → ℕ → Bool
is_checked_file plan file = list_any (checks_in file) plan.clones

-- the entry is of such a file
abbrev pub is_kept : Plan → Logged → Bool
is_kept plan entry = is_checked_file plan entry.piece.file

-- the log of a history of the plan, of such files alone: no check asks for more
abbrev pub log_of_run : Plan → List Event → List (WriteId × Logged)
log_of_run plan history = filter (λ e. is_kept plan e.1) (log_after (checked_by plan) history)

-- what is kept is that log, and which files it is of
pub record IsLog (plan : Plan) (history : List Event) (log : CheckedLog) : Type 0 where
  pub entries : log.writes ≡ log_of_run plan history
  pub files : log.files.items ≡ map (is_checked_file plan) (range_with_len 0 (length plan.files))

-- what a step's bytes are judged by: a check's by what the log has of its write, if it has any, and all others' by nothing
abbrev pub judged_by : List (WriteId × Logged) → Event → Option Expected
judged_by log (Probe worker write piece) = option_map (λ (entry : Logged). entry.expected) (logged log write)
judged_by log (Issue worker kind write piece) = Some Nothing
judged_by log (Skip worker write) = Some Nothing
judged_by log (End worker io outcome) = Some Nothing
judged_by log (Verdict worker io verdict) = Some Nothing
