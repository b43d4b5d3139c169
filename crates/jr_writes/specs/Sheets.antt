-- Internal: a sheet of 4,096 places, in 64 rows of 64 slots.
use Rattle.std.specs.Prelude.{◌≡◌, ℕ, ◌+◌, ◌*◌, ◌/◌, ◌%◌, ◌<◌, Option, Some, None, IsSome, MatchOption}
use Rattle.jr_writes.specs.declared.packed.Packed.{Packed}
use Rattle.jr_writes.specs.Slots.{slot_at}

-- what is in a slot of these
abbrev pub packed_at : {T : Type 0} → Packed T → ℕ → Option T
packed_at slots = slot_at slots.taken slots.items.items

-- what is in a slot of a row, where there is the row
abbrev pub in_row : {V : Type 0} → Option (Packed V) → ℕ → Option V
in_row None slot = None
in_row (Some row) slot = packed_at row slot

-- what is at a place of these rows
unfoldable pub sheet_at : {V : Type 0} → Packed (Packed V) → ℕ → Option V
sheet_at rows place = in_row (packed_at rows (place / 64)) (place % 64)

-- no row is empty
abbrev pub HasNoEmptyRow : {V : Type 0} → Packed (Packed V) → Type 0
HasNoEmptyRow {V} rows = (r : ℕ) (row : Packed V) → packed_at rows r ≡ Some row → row.taken ≡ 0 → ⊥

-- the last place of a row before its end that has something; none where no place there has
abbrev pub IsLastInRow : {V : Type 0} → (ℕ → Option V) → ℕ → ℕ → Option ℕ → Type 0
IsLastInRow at row end found =
    MatchOption found
    ((q : ℕ) → q / 64 ≡ row → q < row * 64 + end → at q ≡ None)
    (λ last. (last / 64 ≡ row) × (last < row * 64 + end) × IsSome (at last) × ((q : ℕ) → q / 64 ≡ row → last < q → q < row * 64 + end → at q ≡ None))
