-- Believed: what a file that is direct asks of the clones that work on it.
use Rattle.std.specs.Prelude.{ℕ, ◌%◌, Bool, ◌==◌, ◌&&◌, not}
use Rattle.jr_model.specs.Plan.{SubJob}

-- so many bytes are whole sectors
abbrev pub is_whole : ℕ → ℕ → Bool
is_whole sector bytes = not (sector == 0) && (bytes % sector == 0)

-- the clone works on this file, and begins within a sector, or has blocks that aren't whole ones: all of its blocks, and so its region,
-- are multiples of its cell
abbrev pub is_ragged : ℕ → ℕ → SubJob → Bool
is_ragged file sector job = (job.file == file) && not (is_whole sector job.start && is_whole sector job.cell)
