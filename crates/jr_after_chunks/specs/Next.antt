-- Believed: the chunks of a file that a plan may write, one after another by their places (of this project).
use Rattle.std.specs.Prelude.{◌≡◌, ℕ, ◌+◌, ◌-◌, ◌*◌, ◌/◌, ◌%◌, ◌<◌, ◌≤◌, nat_lt, nat_le, true, ◌&&◌, List, [], ◌∷◌, slice_get}
use Rattle.std.specs.Prelude.{Option, Some, None, MatchOption, if◌then◌else◌}
use Rattle.jr_model.specs.declared.blocks.Piece.{Piece}
use Rattle.jr_model.specs.declared.limits.TheConstants.{LARGEST_END}
use Rattle.jr_model.specs.Plan.{SubJob}
use Rattle.jr_after_plans.specs.Taken.{chunk_len, writes_to}

-- the end of a clone's region
abbrev pub region_end : SubJob → ℕ
region_end job = job.start + job.cells * job.cell

-- one of the chunks that the region of a clone is cut into
pub record IsChunkOf (job : SubJob) (chunk : Piece) : Type 0 where
  pub some : 0 < chunk_len job
  pub file : chunk.file ≡ job.file
  pub len : chunk.len ≡ chunk_len job
  pub low : job.start ≤ chunk.offset
  pub fits : (chunk.offset - job.start) % chunk_len job ≡ 0
  pub high : chunk.offset + chunk_len job ≤ region_end job

-- a chunk of the file: of a clone that writes to it
pub record IsChunkIn (clones : List SubJob) (file : ℕ) (chunk : Piece) : Type 0 where
  pub place : ℕ
  pub job : SubJob
  pub at : slice_get clones place ≡ Some job
  pub writes : writes_to file job ≡ true
  pub chunk_of : IsChunkOf job chunk

-- the first multiple of a length from a number on
abbrev pub rounded_up : ℕ → ℕ → ℕ
rounded_up n len = (n + (len - 1)) / len * len

-- the place of the clone's first chunk from an offset on
abbrev pub place_from : SubJob → ℕ → ℕ
place_from job from = job.start + rounded_up (from - job.start) (chunk_len job)

abbrev pub chunk_at : SubJob → ℕ → Piece
chunk_at job place = record { file = job.file; offset = place; len = chunk_len job }

-- that chunk, if its region has one
abbrev pub chunk_from : SubJob → ℕ → Option Piece
chunk_from job from =
    if nat_lt 0 (chunk_len job) && nat_le (place_from job from + chunk_len job) (region_end job)
    then Some (chunk_at job (place_from job from))
    else None

-- the chunk with the lower place
abbrev pub earlier : Option Piece → Option Piece → Option Piece
earlier None b = b
earlier (Some a) None = Some a
earlier (Some a) (Some b) = if nat_le a.offset b.offset then Some a else Some b

-- the clone's, if it writes to the file
abbrev pub own_chunk : SubJob → ℕ → ℕ → Option Piece
own_chunk job file from = if writes_to file job then chunk_from job from else None

-- the first chunk of the file from an offset on
abbrev pub next_chunk : List SubJob → ℕ → ℕ → Option Piece
next_chunk [] file from = None
next_chunk (job ∷ jobs) file from = earlier (own_chunk job file from) (next_chunk jobs file from)

-- this chunk of the file is the first one from the offset on
pub record IsFirst (clones : List SubJob) (file from : ℕ) (chunk : Piece) : Type 0 where
  pub is : IsChunkIn clones file chunk
  pub from_there : from ≤ chunk.offset
  pub least : (other : Piece) → IsChunkIn clones file other → from ≤ other.offset → chunk.offset ≤ other.offset

-- it is found, or there is none
abbrev pub IsNext : List SubJob → ℕ → ℕ → Option Piece → Type 0
IsNext clones file from found =
    MatchOption found ((other : Piece) → IsChunkIn clones file other → other.offset < from) (IsFirst clones file from)

-- the chunk has bytes, and they are in the file up to the furthest end
pub record IsReadable (file : ℕ) (chunk : Piece) : Type 0 where
  pub file_is : chunk.file ≡ file
  pub some : 0 < chunk.len
  pub high : chunk.offset + chunk.len ≤ LARGEST_END
