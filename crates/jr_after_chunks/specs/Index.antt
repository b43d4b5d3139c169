-- Internal: the writes by the parts of files that they lie over, so that few are looked at for one chunk.
use Rattle.std.specs.Prelude.{◌≡◌, ℕ, suc, ◌+◌, ◌/◌, ◌%◌, nat_lt, nat_le, Bool, ◌&&◌, nat_eq}
use Rattle.std.specs.Prelude.{List, [], ◌∷◌, Option, Some, None, if◌then◌else◌}
use Rattle.std.specs.HashMap.{get}
use Rattle.std.specs.Int.{div_ceil}
use Rattle.std.specs.Global.{Vec}
use Rattle.jr_model.specs.declared.blocks.Piece.{Piece}
use Rattle.jr_after.specs.declared.writes.Named.{Named}
use Rattle.jr_after_chunks.specs.declared.index.Index.{Index}
use Rattle.jr_after_chunks.specs.declared.index.TheConstants.{PART}

-- the part of its file in which an offset lies
abbrev pub part_of : ℕ → ℕ
part_of offset = offset / PART

-- how many parts a piece lies over, from that of its offset on
abbrev pub part_count : Piece → ℕ
part_count piece = div_ceil (piece.offset % PART + piece.len) PART

-- a piece lies over this part of the file
abbrev pub is_over_part : ℕ → ℕ → Piece → Bool
is_over_part file part piece =
    nat_eq file piece.file && (nat_le (part_of piece.offset) part && nat_lt part (part_of piece.offset + part_count piece))

-- a write whose piece does
abbrev pub is_write_over : ℕ → ℕ → Named → Bool
is_write_over file part named = is_over_part file part named.planned.piece

-- one part of one file
abbrev pub same_part : ℕ × ℕ → ℕ × ℕ → Bool
same_part a b = nat_eq a.0 b.0 && nat_eq a.1 b.1

-- the places that are kept under a part
abbrev pub places_at : Index → ℕ × ℕ → List ℕ
places_at index key = kept (get same_part index.places key)
  where
    kept : Option (Vec ℕ) → List ℕ
    kept None = []
    kept (Some places) = places.items

-- the places at which a test holds, where the first element has this place
abbrev pub places_from : {X : Type 0} → (X → Bool) → ℕ → List X → List ℕ
places_from test place [] = []
places_from test place (x ∷ xs) = if test x then place ∷ places_from test (suc place) xs else places_from test (suc place) xs

-- the index has, under each part of a file, the places of the writes over it
abbrev pub IsIndexOf : Index → List Named → Type 0
IsIndexOf index named = (file part : ℕ) → places_at index (file, part) ≡ places_from (is_write_over file part) 0 named
