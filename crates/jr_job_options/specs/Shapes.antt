-- Believed: how a job's region is cut into cells (fio's manual, "Block size"; the limits are of this project).
use Rattle.std.specs.Prelude.{◌≡◌, ℕ, ◌/◌, ◌%◌, ◌≤◌, nat_le, min, ◌==◌, Bool, true, not, ◌&&◌, ◌||◌, List, [], ◌∷◌, Option, Some, None, Result, Ok, Err, unwrap_or, if◌then◌else◌}
use Rattle.jr_model.specs.declared.limits.TheConstants.{SECTOR}
use Rattle.jr_model.specs.Tickets.{has_pattern, interval_fits}
use Rattle.jr_job_options.specs.declared.faults.JobFault.{JobFault}
use Rattle.jr_job_options.specs.declared.faults.JobFault.TheVariants.{MissingSize, BadBlock, NoPattern}
use Rattle.jr_job_options.specs.declared.options.JobOptions.{JobOptions}
use Rattle.jr_job_options.specs.declared.shapes.Shape.{Shape}
use Rattle.jr_plan.specs.Sizes.{split_fits}
use Rattle.jr_plan.specs.SplitEntries.{percents_total}
use Rattle.jr_model.specs.Directions.{has_reads, has_writes}

-- the cell and the offsets are whole blocks of 512 bytes, the sizes in use fit the cell, and the interval between
-- headers does
abbrev pub options_fit : JobOptions → ℕ → List (ℕ × ℕ) → List (ℕ × ℕ) → Bool
options_fit o cell reads writes =
    nat_le SECTOR cell && (cell % SECTOR == 0) && (o.offset % SECTOR == 0) && (o.offset_step % SECTOR == 0)
    && (not (has_reads o.io_type) || split_fits cell reads)
    && (not (has_writes o.io_type) || split_fits cell writes)
    && interval_fits o.kind o.interval cell

-- a job with these options can be cut so
pub record HasShape (o : JobOptions) (shape : Shape) : Type 0 where
  pub size : o.size ≡ Some shape.size
  pub cells : shape.cells ≡ shape.size / shape.cell
  pub cells_least : 1 ≤ shape.cells
  pub fits : options_fit o shape.cell shape.reads shape.writes ≡ true
  pub reads_total : percents_total shape.reads ≡ 100
  pub writes_total : percents_total shape.writes ≡ 100
  pub pattern : has_pattern o.kind o.pattern ≡ true

-- the least of a number and of the sizes that a split gives at all
abbrev pub least_from : ℕ → List (ℕ × ℕ) → ℕ
least_from least [] = least
least_from least (entry ∷ entries) =
    if entry.1 == 0 then least_from least entries else least_from (min least entry.0) entries

abbrev pub least_size : List (ℕ × ℕ) → ℕ
least_size split = least_from 4294967295 split

-- the least of the sizes in the directions that a job has
abbrev pub cell_of : JobOptions → List (ℕ × ℕ) → List (ℕ × ℕ) → ℕ
cell_of o reads writes =
    min (if has_reads o.io_type then least_size reads else 4294967295) (if has_writes o.io_type then least_size writes else 4294967295)

-- the splits in use: where `bssplit` gives none, one size alone
abbrev pub reads_of : JobOptions → List (ℕ × ℕ)
reads_of o = unwrap_or o.read_split ((o.read_size, 100) ∷ [])

abbrev pub writes_of : JobOptions → List (ℕ × ℕ)
writes_of o = unwrap_or o.write_split ((o.write_size, 100) ∷ [])

-- how the region of a sound job is cut
abbrev pub shape_in : JobOptions → Shape
shape_in o =
    let size = unwrap_or o.size 0 in
    let cell = cell_of o (reads_of o) (writes_of o) in
    record { size = size; cell = cell; cells = size / cell; reads = reads_of o; writes = writes_of o }

-- the shape of so many bytes cut into such cells, unless something else of the job is wrong
abbrev pub cut_shape : JobOptions → ℕ → ℕ → ℕ → Result Shape JobFault
cut_shape o line size cell =
    if not (options_fit o cell (reads_of o) (writes_of o)) || (size / cell == 0) then Err (BadBlock line)
    else (if not (has_pattern o.kind o.pattern) then Err (NoPattern line)
    else Ok (record { size = size; cell = cell; cells = size / cell; reads = reads_of o; writes = writes_of o }))

-- the shape of a job whose section begins at this line, or what is wrong with the job
abbrev pub shape_with : JobOptions → ℕ → Option ℕ → Result Shape JobFault
shape_with o line None = Err (MissingSize line)
shape_with o line (Some size) = cut_shape o line size (cell_of o (reads_of o) (writes_of o))

unfoldable pub shape_of : JobOptions → ℕ → Result Shape JobFault
shape_of o line = shape_with o line o.size
