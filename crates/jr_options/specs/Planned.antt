-- Believed: what each clone of a sound job does.
use Rattle.jr_options.specs.declared.planned.PlannedJob.{PlannedJob}
use Rattle.jr_plan.specs.declared.workloads.Workload.{Workload}

abbrev pub workload_of : PlannedJob → Workload
workload_of job = record {
  phase = job.phase;
  cell = job.shape.cell;
  cells = job.shape.cells;
  io_type = job.options.io_type;
  read_percent = job.options.read_percent;
  reads = job.shape.reads;
  writes = job.shape.writes;
  has_map = job.options.has_map;
  seed = job.options.seed;
  depth = job.options.depth;
  passes = job.options.passes;
  method = record { kind = job.options.kind; pattern = job.options.pattern; interval = job.options.interval };
  checks_writes = job.options.checks_writes;
  backlog = job.options.backlog;
  is_fatal = job.options.is_fatal;
  declines = job.options.declines;
  direct = job.options.direct;
}
