-- Internal: a block that is cut into whole chunks.
use Rattle.std.specs.Prelude.{◌≡◌, ◌≤◌, ◌<◌, ◌+◌, ◌*◌, ◌%◌, ◌^◌, ℕ}
use Rattle.jr_model.specs.declared.blocks.Piece.{Piece}
use Rattle.jr_model.specs.Content.{chunks_in}

-- chunks of this interval make up the piece: whole blocks of 512 bytes, and a whole number of them
pub record IsInChunks (interval : ℕ) (piece : Piece) : Type 0 where
  pub some : 512 ≤ interval
  pub sectors : interval % 512 ≡ 0
  pub whole : chunks_in interval piece * interval ≡ piece.len
  pub end : piece.offset + piece.len < 2 ^ 64
