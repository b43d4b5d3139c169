-- Believed: which I/Os a pass of a clone is made of (fio's manual, "I/O type", "Block size", "norandommap"; the use of the
-- generator's words is of this project). Each draw uses four words: direction, size, place, and the filler's seed.
use Rattle.std.specs.Prelude.{ℕ, suc, ◌+◌, ◌-◌, ◌*◌, ◌/◌, ◌%◌, min, nat_lt, ◌==◌, Bool, true, false, List, [], ◌∷◌, Option, Some, None, unwrap_or, is_none, if◌then◌else◌}
use Rattle.jr_model.specs.declared.blocks.Dir.{Dir}
use Rattle.jr_model.specs.declared.blocks.Dir.TheVariants.{Read, Write}
use Rattle.jr_model.specs.declared.blocks.Piece.{Piece}
use Rattle.jr_model.specs.declared.workloads.Draw.{Draw}
use Rattle.jr_model.specs.declared.workloads.IoType.{IoType}
use Rattle.jr_model.specs.declared.workloads.IoType.TheVariants as io
use Rattle.jr_model.specs.CellSet.{first_free, free_cell_from, free_run, with_cells, no_cells}
use Rattle.jr_model.specs.Plan.{SubJob, Plan, clone_of}
use Rattle.jr_model.specs.Words.{pass_words}

-- the size that a split of (size, percent) gives for t below 100: that of the first entry at which the running sum of
-- percents is above t
abbrev pub size_at : List (ℕ × ℕ) → ℕ → ℕ
size_at [] t = 0
size_at (entry ∷ entries) t = if nat_lt t entry.1 then entry.0 else size_at entries (t - entry.1)

-- a read where t is below the percentage of reads
abbrev pub direction_at : ℕ → ℕ → Dir
direction_at t percent = if nat_lt t percent then Read else Write

-- how a pass chooses its cells: one after another, of those that its map has free (a flag for each cell, true where it
-- is taken), or of all
pub data Places : Type 0 where
  sequential : Places
  mapped : List Bool → Places
  unmapped : Places

abbrev pub random_places : Bool → ℕ → Places
random_places true cells = mapped (no_cells cells)
random_places false cells = unmapped

-- at the start of a pass over so many cells, with a map or without
abbrev pub fresh_places : IoType → Bool → ℕ → Places
fresh_places io.Read has_map cells = sequential
fresh_places io.Write has_map cells = sequential
fresh_places io.ReadWrite has_map cells = sequential
fresh_places io.RandRead has_map cells = random_places has_map cells
fresh_places io.RandWrite has_map cells = random_places has_map cells
fresh_places io.RandRw has_map cells = random_places has_map cells

-- whether all cells of a pass are drawn; without a map they are counted
abbrev pub all_drawn : Places → ℕ → Bool
all_drawn sequential left = left == 0
all_drawn (mapped taken) left = is_none (first_free taken)
all_drawn unmapped left = left == 0

-- the cell at which a draw begins, where so many cells of its direction are drawn and its place word is `place`; only a
-- pass that is over has no free cell in its map
abbrev pub first_cell : Places → ℕ → ℕ → ℕ → ℕ
first_cell sequential cells drawn place = drawn
first_cell (mapped taken) cells drawn place = unwrap_or (free_cell_from taken (place % cells)) 0
first_cell unmapped cells drawn place = place % cells

-- how many cells it takes from cell x on, where it wants so many and so many are left to draw
abbrev pub cell_count : Places → ℕ → ℕ → ℕ → ℕ → ℕ
cell_count sequential cells left x want = min want left
cell_count (mapped taken) cells left x want = free_run taken x want
cell_count unmapped cells left x want = min want (min (cells - x) left)

-- after a draw of m cells from cell x on
abbrev pub places_after : Places → ℕ → ℕ → Places
places_after sequential x m = sequential
places_after (mapped taken) x m = mapped (with_cells taken x m)
places_after unmapped x m = unmapped

-- the direction of a draw whose direction word is t modulo 100
abbrev pub direction_of : IoType → ℕ → ℕ → Dir
direction_of io.Read percent t = Read
direction_of io.RandRead percent t = Read
direction_of io.Write percent t = Write
direction_of io.RandWrite percent t = Write
direction_of io.ReadWrite percent t = direction_at t percent
direction_of io.RandRw percent t = direction_at t percent

-- what is chosen by direction
abbrev pub by_direction : {X : Type 0} → Dir → X → X → X
by_direction Read x y = x
by_direction Write x y = y

-- how far a pass has come: the draws made, where it may go on, and how many cells each direction drew
pub record PassProgress : Type 0 where
  pub number : ℕ
  pub places : Places
  pub reads : ℕ
  pub writes : ℕ

-- at the start of a pass
abbrev pub fresh_progress : SubJob → PassProgress
fresh_progress job = record {
  number = 0;
  places = fresh_places job.io_type job.has_map job.cells;
  reads = 0;
  writes = 0;
}

-- how many cells are still to be drawn
abbrev pub cells_left : SubJob → PassProgress → ℕ
cells_left job done = job.cells - (done.reads + done.writes)

-- all cells of the pass are drawn
abbrev pub pass_over : SubJob → PassProgress → Bool
pass_over job done = all_drawn done.places (cells_left job done)

-- the cells of a clone as a piece of its file: m of them from cell x on
abbrev pub cell_piece : SubJob → ℕ → ℕ → Piece
cell_piece job x m = record { file = job.file; offset = job.start + x * job.cell; len = m * job.cell }

-- one draw as a choice of cells
pub record DrawnCells : Type 0 where
  pub dir : Dir
  pub first : ℕ
  pub count : ℕ

-- the cells that the draw takes, by its words for direction, size and place
abbrev pub chosen_cells : SubJob → PassProgress → ℕ → ℕ → ℕ → DrawnCells
chosen_cells job done direction size place =
    let dir = direction_of job.io_type job.read_percent (direction % 100) in
    let want = size_at (by_direction dir job.read_split job.write_split) (size % 100) / job.cell in
    let x = first_cell done.places job.cells (by_direction dir done.reads done.writes) place in
    record { dir = dir; first = x; count = cell_count done.places job.cells (cells_left job done) x want }

-- the draw itself
abbrev pub draw_at : SubJob → PassProgress → DrawnCells → ℕ → Draw
draw_at job done choice seed = record {
  number = done.number;
  dir = choice.dir;
  piece = cell_piece job choice.first choice.count;
  seed = seed;
}

-- how far the pass is after a draw
abbrev pub progress_after : PassProgress → DrawnCells → PassProgress
progress_after done choice = record {
  number = suc done.number;
  places = places_after done.places choice.first choice.count;
  reads = done.reads + by_direction choice.dir choice.count 0;
  writes = done.writes + by_direction choice.dir 0 choice.count;
}

-- the draws still to come, from these words on
abbrev pub draws_from : SubJob → PassProgress → List ℕ → List Draw
draws_from job done (direction ∷ size ∷ place ∷ seed ∷ words) =
    let choice = chosen_cells job done direction size place in
    let rest = draws_from job (progress_after done choice) words in
    if pass_over job done then [] else (draw_at job done choice seed ∷ rest)
draws_from job done words = []

-- the draws of a pass over these words; each draw takes a cell at least, so four words a cell are enough
abbrev pub draws_over : SubJob → List ℕ → List Draw
draws_over job words = draws_from job (fresh_progress job) words

-- the draws of a clone's pass
abbrev pub draws_of_job : SubJob → ℕ → List Draw
draws_of_job job pass = draws_over job (pass_words job pass (4 * job.cells))

-- the draws of a clone, if there is one
abbrev pub draws_of_clone : Option SubJob → ℕ → List Draw
draws_of_clone None pass = []
draws_of_clone (Some job) pass = draws_of_job job pass

-- the draws of clone c in a pass; none where the plan has no such clone
abbrev pub draws_of : Plan → ℕ → ℕ → List Draw
draws_of plan c pass = draws_of_clone (clone_of plan c) pass
