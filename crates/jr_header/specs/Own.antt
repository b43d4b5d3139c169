-- Internal: the two halves of the header that the bytes of a piece should begin with.
use Rattle.std.specs.Prelude.{ℕ, ◌+◌, ◌-◌, List, [], ◌∷◌, ◌++◌, replicate, slice_range}
use Rattle.std.specs.Int.{w32, w64, to_le_bytes}
use Rattle.jr_model.specs.declared.blocks.Piece.{Piece}
use Rattle.jr_model.specs.declared.contents.VerifyKind.{VerifyKind}
use Rattle.jr_model.specs.Content.{magic, kind_code, digest_length}

-- the first half: pass, clone and draw number as they were read
abbrev pub own_front : ℕ → VerifyKind → Piece → List ℕ → List ℕ
own_front version kind piece bytes =
    magic version ++ (kind_code kind ∷ digest_length kind ∷ [])
    ++ slice_range bytes 6 8 ++ to_le_bytes w32 piece.len ++ slice_range bytes 12 16
    ++ to_le_bytes w64 piece.offset ++ slice_range bytes 24 32

-- the second half: the digest as it was read, and zeros
abbrev pub own_back : VerifyKind → List ℕ → List ℕ
own_back kind bytes = slice_range bytes 32 (32 + digest_length kind) ++ replicate (32 - digest_length kind) 0
