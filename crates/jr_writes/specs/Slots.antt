-- Internal: slots, some of which are taken, by a bit for each and what is in those that are, in their order.
use Rattle.std.specs.Prelude.{◌≡◌, ℕ, ◌<◌, ◌%◌, ◌^◌, ◌==◌, List, Option, None, IsSome, MatchOption, slice_get, count_ones, if◌then◌else◌}
use Rattle.std.specs.Int.{bit_at}

-- what is in a slot: as many items stand before it as slots below it are taken
unfoldable pub slot_at : {T : Type 0} → ℕ → List T → ℕ → Option T
slot_at taken items slot = if bit_at taken slot == 1 then slice_get items (count_ones (taken % 2 ^ slot)) else None

-- the last place below the end that has something; none where no place below it has
abbrev pub IsLastTaken : {T : Type 0} → (ℕ → Option T) → ℕ → Option ℕ → Type 0
IsLastTaken at end found =
    MatchOption found
    ((k : ℕ) → k < end → at k ≡ None)
    (λ last. (last < end) × IsSome (at last) × ((k : ℕ) → last < k → k < end → at k ≡ None))
