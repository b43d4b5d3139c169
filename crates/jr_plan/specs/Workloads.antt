-- Believed: which workload a clone may have (fio's manual, "Block size", "iodepth", "loops", "verify"; the limits are of this project).
use Rattle.std.specs.Prelude.{ℕ, ◌%◌, nat_le, ◌==◌, Bool, true, false, not, ◌&&◌, ◌||◌, [], ◌∷◌, Option, Some, None, if◌then◌else◌}
use Rattle.jr_model.specs.declared.limits.TheConstants.{SECTOR, LARGEST_BLOCK, MOST_DEPTH, MOST_PASSES}
use Rattle.jr_model.specs.declared.contents.VerifyKind.TheVariants as verify
use Rattle.jr_model.specs.declared.workloads.IoType.{IoType}
use Rattle.jr_model.specs.Directions.{has_reads, has_writes}
use Rattle.jr_model.specs.Tickets.{has_pattern, interval_fits}
use Rattle.jr_plan.specs.declared.faults.PlanFault.{PlanFault}
use Rattle.jr_plan.specs.declared.faults.PlanFault.TheVariants as fault
use Rattle.jr_plan.specs.declared.workloads.Workload.{Workload}
use Rattle.jr_plan.specs.Sizes.{split_fits}

-- what a job file plans that says no more than this
abbrev pub plain_workload : IoType → ℕ → ℕ → Workload
plain_workload io_type block cells = record {
  phase = 0;
  cell = block;
  cells = cells;
  io_type = io_type;
  read_percent = 50;
  reads = (block, 100) ∷ [];
  writes = (block, 100) ∷ [];
  has_map = true;
  seed = 1;
  depth = 1;
  passes = 1;
  method = record { kind = verify.Plain; pattern = None; interval = 0 };
  checks_writes = true;
  backlog = 0;
  is_fatal = false;
  declines = false;
  direct = false;
}

-- its region is whole blocks of 512 bytes and has cells, the sizes in use fit the cell, and the interval between headers does
abbrev pub is_cut : Workload → ℕ → Bool
is_cut w start =
    nat_le SECTOR w.cell && nat_le w.cell LARGEST_BLOCK && (w.cell % SECTOR == 0) && (start % SECTOR == 0) && nat_le 1 w.cells
    && (not (has_reads w.io_type) || split_fits w.cell w.reads)
    && (not (has_writes w.io_type) || split_fits w.cell w.writes)
    && interval_fits w.method.kind w.method.interval w.cell

-- its numbers are ones that they may be
abbrev pub numbers_fit : Workload → Bool
numbers_fit w =
    nat_le w.read_percent 100 && nat_le 1 w.depth && nat_le w.depth MOST_DEPTH && nat_le 1 w.passes && nat_le w.passes MOST_PASSES

-- what keeps a clone that begins there out of every plan
abbrev pub workload_fault : Workload → ℕ → Option PlanFault
workload_fault w start =
    if not (is_cut w start) then Some fault.Block
    else (if not (numbers_fit w) then Some fault.Number
    else (if not (has_pattern w.method.kind w.method.pattern) then Some fault.NoPattern else None))
