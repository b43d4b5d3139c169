-- Believed: what the header says that bytes begin with (its layout is of this project; numbers are little-endian).
use Rattle.std.specs.Prelude.{ℕ, nat_lt, Bool, not, ◌&&◌, ◌||◌, List, length, take, slice_index, slice_range, Option, Some, None, if◌then◌else◌}
use Rattle.std.specs.Int.{w16, w32, w64, from_le_bytes}
use Rattle.jr_model.specs.Content.{block_version, chunk_version, magic}
use Rattle.jr_model.specs.Judgement.{same_bytes}
use Rattle.jr_diagnosis.specs.declared.headers.BlockHeader.{BlockHeader}

-- they begin as a header of this version does
abbrev pub begins_as : ℕ → List ℕ → Bool
begins_as version bytes = same_bytes (take 4 bytes) (magic version)

-- what stands in a header, whatever it begins with
abbrev pub header_read : List ℕ → BlockHeader
header_read bytes = record {
  kind = slice_index bytes 4;
  pass = from_le_bytes w16 (slice_range bytes 6 8);
  len = from_le_bytes w32 (slice_range bytes 8 12);
  clone = from_le_bytes w32 (slice_range bytes 12 16);
  offset = from_le_bytes w64 (slice_range bytes 16 24);
  number = from_le_bytes w64 (slice_range bytes 24 32);
}

-- the header that bytes begin with, if they begin with one: that of a block, or of a chunk
abbrev pub header_in : List ℕ → Option BlockHeader
header_in bytes =
    if not (nat_lt (length bytes) 64) && (begins_as block_version bytes || begins_as chunk_version bytes)
    then Some (header_read bytes)
    else None
