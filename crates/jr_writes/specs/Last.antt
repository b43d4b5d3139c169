-- Internal: which spots stand last before an end, and which of them share a byte with a piece.
use Rattle.std.specs.Prelude.{◌≡◌, ℕ, ◌+◌, ◌<◌, ◌≤◌, true, false, Option, Some, None, MatchOption}
use Rattle.jr_model.specs.declared.blocks.Piece.{Piece}
use Rattle.jr_model.specs.declared.events.WriteId.{WriteId}
use Rattle.jr_model.specs.Pieces.{pieces_overlap}
use Rattle.jr_writes.specs.declared.spot.Spot.{Spot}
use Rattle.jr_writes.specs.Index.{is_kept, piece_at}

-- the last offset of a file before the end at which something stands, and what
abbrev pub IsLastBefore : (ℕ × ℕ → Option Spot) → ℕ → ℕ → Option (ℕ × Spot) → Type 0
IsLastBefore spot_in file end found =
    MatchOption found
    ((offset : ℕ) → offset < end → spot_in (file, offset) ≡ None)
    (λ f. (spot_in (file, f.0) ≡ Some f.1) × (f.0 < end)
    × ((offset : ℕ) → f.0 < offset → offset < end → spot_in (file, offset) ≡ None))

-- no spot from one offset up to another, but the kept write's, shares a byte with the piece
abbrev pub NoneOverlapsIn : Option WriteId → Piece → (ℕ × ℕ → Option Spot) → ℕ → ℕ → Type 0
NoneOverlapsIn kept piece spot_in start end =
    (place : ℕ × ℕ) (spot : Spot) → spot_in place ≡ Some spot → start ≤ place.1 → place.1 < end
    → is_kept kept spot.write ≡ false → pieces_overlap piece (piece_at place spot) ≡ false

-- nor from an offset on
abbrev pub NoneOverlapsFrom : Option WriteId → Piece → (ℕ × ℕ → Option Spot) → ℕ → Type 0
NoneOverlapsFrom kept piece spot_in start =
    (place : ℕ × ℕ) (spot : Spot) → spot_in place ≡ Some spot → start ≤ place.1
    → is_kept kept spot.write ≡ false → pieces_overlap piece (piece_at place spot) ≡ false

-- the last offset of the piece's file before the end at which a write other than the kept one stands, and what
abbrev pub IsLastOther : Option WriteId → Piece → (ℕ × ℕ → Option Spot) → ℕ → Option (ℕ × Spot) → Type 0
IsLastOther kept piece spot_in end found =
    MatchOption found
    ((offset : ℕ) (spot : Spot) → offset < end → spot_in (piece.file, offset) ≡ Some spot → is_kept kept spot.write ≡ true)
    (λ f. (spot_in (piece.file, f.0) ≡ Some f.1) × (f.0 < end) × (is_kept kept f.1.write ≡ false)
    × ((offset : ℕ) (spot : Spot) → f.0 < offset → offset < end → spot_in (piece.file, offset) ≡ Some spot → is_kept kept spot.write ≡ true))

-- the last offset before the end at which a write other than the kept one stands whose piece shares a byte with the
-- piece, and what stands there; nothing where there is none
abbrev pub IsLastOverlapped : Option WriteId → Piece → (ℕ × ℕ → Option Spot) → ℕ → Option (ℕ × Spot) → Type 0
IsLastOverlapped kept piece spot_in end found =
    MatchOption found
    (NoneOverlapsIn kept piece spot_in 0 end)
    (λ f. (spot_in (piece.file, f.0) ≡ Some f.1) × (f.0 < end) × (is_kept kept f.1.write ≡ false)
    × (pieces_overlap piece (piece_at (piece.file, f.0) f.1) ≡ true) × NoneOverlapsIn kept piece spot_in (f.0 + 1) end)
