-- Believed: the clone of a workload, by its job's name, its number, its file and its start.
use Rattle.std.specs.Prelude.{ℕ, List}
use Rattle.jr_model.specs.Plan.{SubJob}
use Rattle.jr_plan.specs.declared.workloads.Workload.{Workload}

abbrev pub planned_clone : Workload → List ℕ → ℕ → ℕ → ℕ → SubJob
planned_clone w job number file start = record {
  job = job;
  clone = number;
  phase = w.phase;
  file = file;
  start = start;
  cell = w.cell;
  cells = w.cells;
  io_type = w.io_type;
  read_percent = w.read_percent;
  read_split = w.reads;
  write_split = w.writes;
  has_map = w.has_map;
  seed = w.seed;
  depth = w.depth;
  passes = w.passes;
  method = w.method;
  checks_writes = w.checks_writes;
  backlog = w.backlog;
  is_fatal = w.is_fatal;
  declines = w.declines;
  direct = w.direct;
}
