-- Believed: what is left of a job's clone after a run that a fault halted (of this project): the bytes that it never came to, and what it
-- wrote and nobody read back.
use Rattle.std.specs.Prelude.{ℕ, suc, ◌+◌, ◌-◌, ◌*◌, ◌/◌, ◌==◌, max, min, nat_lt, Bool, true, false, not, ◌&&◌, List, [], ◌∷◌, ◌++◌, Option, Some, None, filter_map, fold, map, if◌then◌else◌}
use Rattle.std.specs.List.{list_any, enumerate_from}
use Rattle.jr_model.specs.declared.blocks.Piece.{Piece}
use Rattle.jr_model.specs.declared.events.Event.{Event}
use Rattle.jr_model.specs.declared.events.Event.TheVariants.{Issue, Probe, Skip, End, Verdict}
use Rattle.jr_model.specs.declared.events.Started.{Started}
use Rattle.jr_model.specs.declared.limits.TheConstants.{MOST_CELLS}
use Rattle.jr_model.specs.declared.workloads.IoType.{IoType}
use Rattle.jr_model.specs.declared.workloads.IoType.TheVariants as io
use Rattle.jr_model.specs.Directions.{has_writes}
use Rattle.jr_model.specs.History.{started, outcome_of, ended_whole, is_of_clone, is_write}
use Rattle.jr_model.specs.Legal.{takes_up}
use Rattle.jr_model.specs.Pieces.{piece_end}
use Rattle.jr_model.specs.Plan.{Plan, SubJob, clone_of}
use Rattle.jr_model.specs.Rounds.{has_rounds}
use Rattle.jr_rounds_rest.specs.declared.tasks.Task.{Task}

-- the clone goes through its region in order, one way
abbrev pub is_in_order : IoType → Bool
is_in_order io.Read = true
is_in_order io.Write = true
is_in_order io.ReadWrite = false
is_in_order io.RandRead = false
is_in_order io.RandWrite = false
is_in_order io.RandRw = false

-- the first byte past the clone's region
abbrev pub region_end : SubJob → ℕ
region_end job = job.start + job.cells * job.cell

-- another clone that writes where this one does: what this one wrote may not be there any more
abbrev pub disturbs : SubJob → SubJob → Bool
disturbs job other =
    not (other.clone == job.clone) && has_writes other.io_type && has_writes job.io_type && (other.file == job.file)
    && nat_lt (max job.start other.start) (min (region_end job) (region_end other))

-- a clone of a job goes on behind a fault if it goes in order, and no other clone writes where it does
abbrev pub clone_goes_on : Plan → SubJob → Bool
clone_goes_on plan job = is_in_order job.io_type && not (list_any (disturbs job) plan.clones)

abbrev pub goes_on_at : Plan → Option SubJob → Bool
goes_on_at plan None = false
goes_on_at plan (Some job) = clone_goes_on plan job

-- at the start nothing of a clone was tried
abbrev pub task_of : SubJob → Task
task_of job = record { original = job.clone; is_check = false; start = job.start; cell = job.cell; cells = job.cells }

abbrev pub first_tasks : Plan → List Task
first_tasks plan = map task_of plan.clones

-- how far clone c came in its first pass
abbrev pub further : ℕ → ℕ → Event → ℕ
further c end (Issue worker kind write piece) = if (write.clone == c) && (write.pass == 0) then max end (piece_end piece) else end
further c end (Probe worker write piece) = end
further c end (Skip worker write) = end
further c end (End worker id outcome) = end
further c end (Verdict worker id verdict) = end

-- the end of the last piece that the clone issued in its first pass
abbrev pub reached : List Event → SubJob → ℕ
reached history job = fold (further job.clone) job.start history

-- from there on up to the end of its region; there are at most all of its cells
abbrev pub rest_from : Task → SubJob → ℕ → List Task
rest_from task job end =
    if nat_lt end (region_end job)
    then (record {
      original = task.original;
      is_check = task.is_check;
      start = end;
      cell = job.cell;
      cells = min job.cells ((region_end job - end) / job.cell);
    } ∷ [])
    else []

-- the piece of a write of clone c that ended whole, and was neither checked nor skipped
abbrev pub if_unchecked : List Event → ℕ → ℕ × Started → Option Piece
if_unchecked history c numbered =
    if is_write numbered.1.kind && is_of_clone c numbered.1 && ended_whole (outcome_of history numbered.0)
    && not (list_any (takes_up numbered.1.write) history)
    then Some numbered.1.piece
    else None

-- of a clone that checks its writes, those that are still to check, in the order in which they were started
abbrev pub unchecked : List Event → SubJob → List Piece
unchecked history job =
    if has_rounds job then filter_map (if_unchecked history job.clone) (enumerate_from 0 (started history)) else []

-- the piece comes next after the blocks of a check, and is of their size
abbrev pub follows : Task → Piece → Bool
follows task piece =
    (piece.len == task.cell) && (piece.offset == task.start + task.cells * task.cell) && nat_lt task.cells MOST_CELLS

-- the check of one block
abbrev pub check_of : ℕ → Piece → Task
check_of original piece = record { original = original; is_check = true; start = piece.offset; cell = piece.len; cells = 1 }

abbrev pub longer : Task → Task
longer task = record task { cells = suc task.cells }

-- checks of all of these blocks, from this one on: one for each run of blocks of one size next to one another
abbrev pub checks_from : ℕ → Task → List Piece → List Task
checks_from original task [] = task ∷ []
checks_from original task (piece ∷ pieces) =
    if follows task piece
    then checks_from original (longer task) pieces
    else (task ∷ checks_from original (check_of original piece) pieces)

abbrev pub checks_of : ℕ → List Piece → List Task
checks_of original [] = []
checks_of original (piece ∷ pieces) = checks_from original (check_of original piece) pieces

-- what is left of the clone that did a task: the rest of it, and checks
abbrev pub left_of : List Event → Task → Option SubJob → List Task
left_of history task None = []
left_of history task (Some job) =
    rest_from task job (reached history job) ++ checks_of task.original (unchecked history job)

-- the same of clone i of a round, whose task this was; nothing if the job's clone doesn't go on
abbrev pub left_at : Plan → Plan → List Event → ℕ → Task → List Task
left_at plan round history i task =
    if goes_on_at plan (clone_of plan task.original) then left_of history task (clone_of round i) else []

-- what is left of the clones of a round from clone i on, whose tasks these were
abbrev pub left_from : Plan → Plan → List Event → ℕ → List Task → List Task
left_from plan round history i [] = []
left_from plan round history i (task ∷ tasks) = left_at plan round history i task ++ left_from plan round history (suc i) tasks

-- what is left of a job after a round of it: its plan, the plan of the round, the tasks of the round's clones, and what happened
abbrev pub tasks_left : Plan → Plan → List Task → List Event → List Task
tasks_left plan round tasks history = left_from plan round history 0 tasks
