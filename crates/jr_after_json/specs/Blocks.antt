-- Believed: which blocks of a file have bytes of chunks, where its blocks are counted from 0 and have so many bytes each (the list of
-- `badblocks -o`: badblocks(8)).
use Rattle.std.specs.Prelude.{◌≡◌, ℕ, Bool, List, filter, flat_map, map}
use Rattle.std.specs.List.{list_any}
use Rattle.std.specs.List.Sorted.{IsStrictlyIncreasing}
use Rattle.jr_model.specs.declared.blocks.Piece.{Piece}
use Rattle.jr_model.specs.Pieces.{pieces_overlap}
use Rattle.jr_report_maps.specs.BadBlocks.{block_piece, is_listed}
use Rattle.jr_after_report.specs.declared.lines.Judged.{Judged}
use Rattle.jr_after_report.specs.Counting.{is_fault}
use Rattle.jr_after_report.specs.Reports.{FileState}

abbrev pub is_at : ℕ → ℕ → ℕ → Piece → Bool
is_at file size block chunk = pieces_overlap chunk (block_piece file size block)

-- a number is there exactly where a chunk has a byte in that block; they ascend, so each is there once
pub record AreChunkBlocks (chunks : List Piece) (file size : ℕ) (blocks : List ℕ) : Type 0 where
  pub listed : (block : ℕ) → is_listed blocks block ≡ list_any (is_at file size block) chunks
  pub ascending : IsStrictlyIncreasing blocks

abbrev pub place_of : Judged → Piece
place_of one = one.chunk

-- the chunks of a file that are lost or broken
abbrev pub fault_chunks_of : FileState → List Piece
fault_chunks_of state = map place_of (filter is_fault state.told)

-- those of all files
abbrev pub fault_chunks : List FileState → List Piece
fault_chunks found = flat_map fault_chunks_of found
