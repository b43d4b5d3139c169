-- Believed: what is printed of a job that goes on behind faults (of this project).
use Rattle.std.specs.Prelude.{ℕ, suc, ◌*◌, Bool, true, false, List, [], ◌∷◌, ◌++◌, codes, flat_map, if◌then◌else◌}
use Rattle.jr_model.specs.Plan.{Plan, SubJob}
use Rattle.jr_model.specs.Report.{field}
use Rattle.jr_rounds_rest.specs.declared.tasks.Task.{Task}
use Rattle.jr_rounds_rest.specs.Left.{clone_goes_on}
use Rattle.jr_rounds_rest.specs.Untried.{untried_bytes}

abbrev pub does_word : Bool → List ℕ
does_word true = codes " does=check"
does_word false = codes " does=rest"

-- of which clone of the job a task is, and what it does
abbrev pub task_fields : Task → List ℕ
task_fields task =
    field (codes "of") task.original ++ does_word task.is_check ++ field (codes "start") task.start
    ++ field (codes "size") (task.cells * task.cell) ++ codes "\n"

-- the line of a clone of a round
abbrev pub part_line : ℕ → ℕ → Task → List ℕ
part_line round clone task = codes "part:" ++ field (codes "round") round ++ field (codes "clone") clone ++ task_fields task

-- those of the clones of a round from this one on
abbrev pub part_lines : ℕ → ℕ → List Task → List ℕ
part_lines round clone [] = []
part_lines round clone (task ∷ tasks) = part_line round clone task ++ part_lines round (suc clone) tasks

abbrev pub bytes_line : SubJob → ℕ → List ℕ
bytes_line job bytes = codes "untried: " ++ job.job ++ codes ":" ++ field (codes "clone") job.clone ++ field (codes "bytes") bytes ++ codes "\n"

-- the line that says how many bytes of a clone were never tried; a clone that doesn't go on has none
abbrev pub untried_line : Plan → List Task → SubJob → List ℕ
untried_line plan tasks job = if clone_goes_on plan job then bytes_line job (untried_bytes job.clone tasks) else []

abbrev pub untried_text : Plan → List Task → List ℕ
untried_text plan tasks = flat_map (untried_line plan tasks) plan.clones
