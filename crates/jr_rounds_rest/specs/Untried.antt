-- Believed: how many bytes of a job's clone are still to be tried (of this project).
use Rattle.std.specs.Prelude.{ℕ, ◌*◌, ◌^◌, ◌-◌, ◌+◌, ◌==◌, min, not, ◌&&◌, List, fold, if◌then◌else◌}
use Rattle.jr_rounds_rest.specs.declared.tasks.Task.{Task}

-- the bytes of a task, if it is to try bytes of this clone
abbrev pub bytes_to_try : ℕ → Task → ℕ
bytes_to_try original task = if (task.original == original) && not task.is_check then task.cells * task.cell else 0

-- a count of 64 bits, which stays at the last one
abbrev pub untried_bytes : ℕ → List Task → ℕ
untried_bytes original tasks = fold (λ sum task. min (sum + bytes_to_try original task) (2 ^ 64 - 1)) 0 tasks
