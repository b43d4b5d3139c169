-- Internal: what a clone and its pass keep, so that each draw is a piece of the clone's region (the limits are of this
-- project).
use Rattle.std.specs.Prelude.{◌≡◌, ℕ, ◌+◌, ◌*◌, ◌%◌, ◌^◌, ◌≤◌, true, false, [], None, length}
use Rattle.jr_model.specs.declared.contents.VerifyKind.TheVariants as verify
use Rattle.jr_model.specs.declared.limits.TheConstants.{LARGEST_BLOCK}
use Rattle.jr_model.specs.CellSet.{free_run, free_count}
use Rattle.jr_model.specs.Draws.{Places, sequential, mapped, unmapped, PassProgress, DrawnCells, cells_left}
use Rattle.jr_model.specs.Plan.{SubJob}
use Rattle.jr_model.specs.PlanFacts.{has_reads, has_writes, SizesFit}

-- the limits of a clone that its draws rest on
pub record IsDrawable (job : SubJob) : Type 0 where
  pub cell_sectors : job.cell % 512 ≡ 0
  pub cell_least : 1 ≤ job.cell
  pub cells_least : 1 ≤ job.cells
  pub cells_most : job.cells ≤ 2 ^ 24
  pub start_sectors : job.start % 512 ≡ 0
  pub region : job.start + job.cells * job.cell ≤ 2 ^ 50
  pub reads : has_reads job.io_type ≡ true → SizesFit job.cell job.read_split
  pub writes : has_writes job.io_type ≡ true → SizesFit job.cell job.write_split

-- a map has so many cells
abbrev pub HasCells : Places → ℕ → Type 0
HasCells sequential cells = Unit {0}
HasCells (mapped taken) cells = length taken ≡ cells
HasCells unmapped cells = Unit {0}

-- so many of all cells are drawn; a map has the others free
abbrev pub PlacesFit : Places → ℕ → ℕ → Type 0
PlacesFit sequential cells drawn = drawn ≤ cells
PlacesFit (mapped taken) cells drawn = (length taken ≡ cells) × (drawn + free_count taken ≡ cells)
PlacesFit unmapped cells drawn = drawn ≤ cells

-- a pass on its way: each draw took a cell at least
pub record IsSound (job : SubJob) (done : PassProgress) : Type 0 where
  pub drawable : IsDrawable job
  pub places : PlacesFit done.places job.cells (done.reads + done.writes)
  pub number : done.number ≤ done.reads + done.writes

-- a pass on its way: of its clone only what its draws depend on, and how far it has come
pub record CourseRecord : Type 0 where
  pub job : SubJob
  pub done : PassProgress

-- what of a clone its draws depend on; the rest is left empty
abbrev pub part_of : SubJob → SubJob
part_of job = record {
  job = [];
  clone = 0;
  phase = 0;
  file = job.file;
  start = job.start;
  cell = job.cell;
  cells = job.cells;
  io_type = job.io_type;
  read_percent = job.read_percent;
  read_split = job.read_split;
  write_split = job.write_split;
  has_map = false;
  seed = 0;
  depth = 0;
  passes = 0;
  method = record { kind = verify.Plain; pattern = None; interval = 0 };
  checks_writes = false;
  backlog = 0;
  is_fatal = false;
  declines = false;
  direct = false;
}

-- these m cells from cell x on are free, where there is a map
abbrev pub AreFree : Places → ℕ → ℕ → Type 0
AreFree sequential x m = Unit {0}
AreFree (mapped taken) x m = free_run taken x m ≡ m
AreFree unmapped x m = Unit {0}

-- a draw of some cells of the region that are still to be drawn, no longer than the largest block
pub record DrawnCellsFit (job : SubJob) (done : PassProgress) (choice : DrawnCells) : Type 0 where
  pub some : 1 ≤ choice.count
  pub within : choice.first + choice.count ≤ job.cells
  pub left : choice.count ≤ cells_left job done
  pub short : choice.count * job.cell ≤ LARGEST_BLOCK
  pub free : AreFree done.places choice.first choice.count
