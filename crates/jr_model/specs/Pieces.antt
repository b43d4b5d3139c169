-- Believed: pieces of files (fio's manual, "Block size" and "I/O type": an I/O is a block at an offset of a file).
use Rattle.std.specs.Prelude.{ℕ, ◌+◌, min, max, nat_lt, ◌==◌, Bool, ◌&&◌}
use Rattle.jr_model.specs.declared.blocks.Piece.{Piece}

-- the first offset past the piece
abbrev pub piece_end : Piece → ℕ
piece_end p = p.offset + p.len

-- one file and a shared byte: the later of the starts lies before the earlier of the ends
abbrev pub pieces_overlap : Piece → Piece → Bool
pieces_overlap a b = (a.file == b.file) && nat_lt (max a.offset b.offset) (min (piece_end a) (piece_end b))
