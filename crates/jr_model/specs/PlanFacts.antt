-- Believed: what holds of every plan, however it is made (the limits are of this project).
use Rattle.std.specs.Prelude.{◌≡◌, ℕ, ◌+◌, ◌*◌, ◌%◌, ◌<◌, ◌≤◌, true, List, length, sum_by, Some, slice_get}
use Rattle.jr_model.specs.declared.limits.TheConstants.{SECTOR, LARGEST_BLOCK, LARGEST_END, MOST_CELLS, MOST_CLONES, MOST_DEPTH, MOST_PASSES, MOST_VERIFIERS, MOST_WORK}
use Rattle.jr_model.specs.Draws.{size_at}
use Rattle.jr_model.specs.Plan.{SubJob, FileSpec, Plan}
use Rattle.jr_model.specs.Tickets.{has_pattern, interval_fits}
pub use Rattle.jr_model.specs.Directions.{has_reads, has_writes}

-- each size that the split gives is a multiple of the cell, from the cell on up to the largest block
pub record SizesFit (cell : ℕ) (split : List (ℕ × ℕ)) : Type 0 where
  pub multiple : (t : ℕ) → t < 100 → size_at split t % cell ≡ 0
  pub least : (t : ℕ) → t < 100 → cell ≤ size_at split t
  pub most : (t : ℕ) → t < 100 → size_at split t ≤ LARGEST_BLOCK

-- a planned clone keeps the limits: its cell is whole blocks of 512 bytes, its region has cells and lies within the
-- furthest end, and its methods have what they need
pub record KeepsLimits (job : SubJob) : Type 0 where
  pub cell_sectors : job.cell % SECTOR ≡ 0
  pub cell_least : SECTOR ≤ job.cell
  pub cell_most : job.cell ≤ LARGEST_BLOCK
  pub cells_least : 1 ≤ job.cells
  pub cells_most : job.cells ≤ MOST_CELLS
  pub start_sectors : job.start % SECTOR ≡ 0
  pub region : job.start + job.cells * job.cell ≤ LARGEST_END
  pub percent : job.read_percent ≤ 100
  pub depth_least : 1 ≤ job.depth
  pub depth_most : job.depth ≤ MOST_DEPTH
  pub passes_least : 1 ≤ job.passes
  pub passes_most : job.passes ≤ MOST_PASSES
  pub reads : has_reads job.io_type ≡ true → SizesFit job.cell job.read_split
  pub writes : has_writes job.io_type ≡ true → SizesFit job.cell job.write_split
  pub pattern : has_pattern job.method.kind job.method.pattern ≡ true
  pub interval : interval_fits job.method.kind job.method.interval job.cell ≡ true

-- the clone at place i of a list over these files: it is numbered so, and its region lies within its file
pub record IsPlaced (files : List FileSpec) (i : ℕ) (job : SubJob) : Type 0 where
  pub number : job.clone ≡ i
  pub file : job.file < length files
  pub within : (spec : FileSpec) → slice_get files job.file ≡ Some spec → (spec.low ≤ job.start) × (job.start + job.cells * job.cell ≤ spec.high)

-- the cells that the clones' passes visit, all together
abbrev pub work_of : List SubJob → ℕ
work_of clones = sum_by (λ (job : SubJob). job.cells * job.passes) clones

-- clones in their places, each within the limits, and files that hold them
pub record AreDrafted (clones : List SubJob) (files : List FileSpec) : Type 0 where
  pub clones_most : length clones ≤ MOST_CLONES
  pub files_most : length files ≤ length clones
  pub placed : (i : ℕ) (job : SubJob) → slice_get clones i ≡ Some job → IsPlaced files i job
  pub limited : (i : ℕ) (job : SubJob) → slice_get clones i ≡ Some job → KeepsLimits job
  pub ends : (f : ℕ) (spec : FileSpec) → slice_get files f ≡ Some spec → (spec.low ≤ spec.high) × (spec.high ≤ LARGEST_END)
  pub work : work_of clones ≤ MOST_WORK

-- a plan: 1 to 64 such clones, and at most 16 verifiers
pub record IsPlanned (plan : Plan) : Type 0 where
  pub clones_least : 1 ≤ length plan.clones
  pub drafted : AreDrafted plan.clones plan.files
  pub verifiers : plan.verifiers ≤ MOST_VERIFIERS
