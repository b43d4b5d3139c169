-- Believed: the plan of a round that goes on with what is left of a job (of this project).
use Rattle.std.specs.Prelude.{ℕ, ◌+◌, ◌%◌, ◌^◌, ◌==◌, true, false, List, [], ◌∷◌, Option, Some, None, fold, is_none, length, if◌then◌else◌}
use Rattle.jr_model.specs.declared.workloads.IoType.TheVariants as io
use Rattle.jr_model.specs.Plan.{Plan, SubJob, clone_of}
use Rattle.jr_model.specs.Report.{file_name}
use Rattle.jr_plan.specs.declared.workloads.Workload.{Workload}
use Rattle.jr_plan.specs.Drafts.{Clones, no_clones, with_clone, clone_fault}
use Rattle.jr_rounds_rest.specs.declared.drafting.Drafting.{Drafting}
use Rattle.jr_rounds_rest.specs.declared.tasks.Task.{Task}

-- what a clone does for a task: what the job's clone does, once, with a seed that is so much further on; a check only reads, one block
-- after another, and checks what it reads
abbrev pub workload_of : SubJob → ℕ → Task → Workload
workload_of job by task = record {
  phase = job.phase;
  cell = task.cell;
  cells = task.cells;
  io_type = if task.is_check then io.Read else job.io_type;
  read_percent = job.read_percent;
  reads = if task.is_check then ((task.cell, 100) ∷ []) else job.read_split;
  writes = if task.is_check then ((task.cell, 100) ∷ []) else job.write_split;
  has_map = job.has_map;
  seed = (job.seed + by) % 2 ^ 64;
  depth = job.depth;
  passes = 1;
  method = job.method;
  checks_writes = job.checks_writes;
  backlog = job.backlog;
  is_fatal = job.is_fatal;
  declines = job.declines;
  direct = job.direct;
}

-- a plan while tasks are put into it: its clones, and whether a task didn't fit
abbrev pub nothing_drafted : Drafting
nothing_drafted = record { draft = no_clones; is_full = false }

abbrev pub filled : Drafting → Drafting
filled so_far = record so_far { is_full = true }

-- a clone for the task, of this clone of the job, if it fits
abbrev pub with_clone_for : Plan → ℕ → Drafting → Task → SubJob → Drafting
with_clone_for plan by so_far task job =
    let workload = workload_of job by task in
    if is_none (clone_fault so_far.draft workload task.start)
    then record so_far { draft = with_clone so_far.draft workload job.job (file_name plan job.file) task.start }
    else filled so_far

abbrev pub with_task_of : Plan → ℕ → Drafting → Task → Option SubJob → Drafting
with_task_of plan by so_far task None = filled so_far
with_task_of plan by so_far task (Some job) = with_clone_for plan by so_far task job

-- one task more; none after one that didn't fit
abbrev pub with_task : Plan → ℕ → Drafting → Task → Drafting
with_task plan by so_far task = if so_far.is_full then so_far else with_task_of plan by so_far task (clone_of plan task.original)

-- as many of these tasks as fit into one plan, from the first on
abbrev pub drafted : Plan → ℕ → List Task → Drafting
drafted plan by tasks = fold (with_task plan by) nothing_drafted tasks

-- these clones, carried out as the job is; no plan has none
abbrev pub plan_with : Plan → Clones → Option Plan
plan_with plan d =
    if length d.clones == 0
    then None
    else Some (record { clones = d.clones; files = d.files; engine = plan.engine; verifiers = plan.verifiers })

-- the plan of a round that goes on with these tasks, whose clones are of the first of them
abbrev pub next_round : Plan → ℕ → List Task → Option Plan
next_round plan by tasks = plan_with plan (drafted plan by tasks).draft
