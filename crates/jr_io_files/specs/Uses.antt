-- Believed: what a plan's clones do with one of its files.
use Rattle.std.specs.Prelude.{ℕ, Bool, ◌==◌, ◌&&◌}
use Rattle.jr_model.specs.Directions.{has_writes}
use Rattle.jr_model.specs.Plan.{SubJob, is_verified}

-- the clone writes this file
abbrev pub writes_file : ℕ → SubJob → Bool
writes_file file job = (job.file == file) && has_writes job.io_type

-- the clone checks what it reads of this file: what it wrote itself, or what stands there
abbrev pub checks_file : ℕ → SubJob → Bool
checks_file file job = (job.file == file) && is_verified job.method.kind && job.checks_writes
