-- Internal: how the places of the settled pieces lead to their writes and back.
use Rattle.std.specs.Prelude.{◌≡◌, ℕ, ◌≤◌, Bool, true, false, not, ◌||◌, List, Option, Some, None}
use Rattle.std.specs.declared.cmp.Ordering.{Ordering}
use Rattle.std.specs.Option.{option_map}
use Rattle.std.specs.Ordering.{nat_cmp, ordering_then}
use Rattle.std.specs.Map.{lookup}
use Rattle.std.specs.BTreeMap.{is_at}
use Rattle.jr_model.specs.declared.blocks.Piece.{Piece}
use Rattle.jr_model.specs.declared.events.WriteId.{WriteId}
use Rattle.jr_model.specs.History.{same_write, write_order}
use Rattle.jr_model.specs.Pieces.{pieces_overlap}
use Rattle.jr_writes.specs.declared.kept.Kept.{Kept}
use Rattle.jr_writes.specs.declared.spot.Spot.{Spot}

-- what is kept of a write
abbrev pub kept_of : List (WriteId × Kept) → WriteId → Option Kept
kept_of writes write = lookup (is_at (write_order write)) writes

-- where a piece begins: its file and its offset
abbrev pub place_of : Piece → ℕ × ℕ
place_of piece = (piece.file, piece.offset)

-- the order of places: by file, then by offset
abbrev pub place_order : ℕ × ℕ → ℕ × ℕ → Ordering
place_order a b = ordering_then (nat_cmp a.0 b.0) (nat_cmp a.1 b.1)

-- the piece of a spot
abbrev pub piece_at : ℕ × ℕ → Spot → Piece
piece_at place spot = record { file = place.0; offset = place.1; len = spot.len }

-- the spot of a write
abbrev pub spot_of : WriteId → Piece → Spot
spot_of write piece = record { write = write; len = piece.len }

-- the write is the kept one
abbrev pub is_kept : Option WriteId → WriteId → Bool
is_kept None write = false
is_kept (Some kept) write = same_write kept write

-- the entry is of the kept write, or shares no byte with the piece
abbrev pub stays : Option WriteId → Piece → WriteId × Kept → Bool
stays kept piece e = is_kept kept e.0 || not (pieces_overlap piece e.1.piece)

-- no piece is empty, and no two share a byte; the kept write's may share bytes with others
pub record AreDisjoint (kept : Option WriteId) (spot_in : ℕ × ℕ → Option Spot) : Type 0 where
  pub sized : (place : ℕ × ℕ) (spot : Spot) → spot_in place ≡ Some spot → 1 ≤ spot.len
  pub apart : (p q : ℕ × ℕ) (s t : Spot) → spot_in p ≡ Some s → spot_in q ≡ Some t
      → is_kept kept s.write ≡ false → is_kept kept t.write ≡ false
      → pieces_overlap (piece_at p s) (piece_at q t) ≡ true → p ≡ q

-- each kept piece stands at its place, what stands at a place leads back to its write, and the pieces are disjoint
pub record IsIndexed (kept : Option WriteId) (entry_of : WriteId → Option Kept) (spot_in : ℕ × ℕ → Option Spot) : Type 0 where
  pub stands : (write : WriteId) (entry : Kept) → entry_of write ≡ Some entry
      → spot_in (place_of entry.piece) ≡ Some (spot_of write entry.piece)
  pub leads_back : (place : ℕ × ℕ) (spot : Spot) → spot_in place ≡ Some spot
      → option_map (λ e. e.piece) (entry_of spot.write) ≡ Some (piece_at place spot)
  pub disjoint : AreDisjoint kept spot_in

-- the kept write, where there is one, stands at no other piece
abbrev pub StandsHere : Option WriteId → Piece → (ℕ × ℕ → Option Spot) → Type 0
StandsHere kept piece spot_in =
    (place : ℕ × ℕ) (spot : Spot) → spot_in place ≡ Some spot → is_kept kept spot.write ≡ true → piece_at place spot ≡ piece

-- no spot but the kept write's shares a byte with the piece
abbrev pub NoneOverlaps : Option WriteId → Piece → (ℕ × ℕ → Option Spot) → Type 0
NoneOverlaps kept piece spot_in =
    (place : ℕ × ℕ) (spot : Spot) → spot_in place ≡ Some spot → is_kept kept spot.write ≡ false
    → pieces_overlap piece (piece_at place spot) ≡ false
