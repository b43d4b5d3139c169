-- Internal: the spots of the pieces, found by their places, on sheets of 4,096 sectors of 512 bytes.
use Rattle.std.specs.Prelude.{◌≡◌, ℕ, ◌+◌, ◌*◌, ◌/◌, ◌%◌, ◌<◌, ◌==◌, List, Option, Some, None, MatchOption, if◌then◌else◌}
use Rattle.std.specs.Map.{lookup}
use Rattle.std.specs.BTreeMap.{is_at}
use Rattle.jr_writes.specs.declared.sheets.Sheet.{Sheet}
use Rattle.jr_writes.specs.declared.spot.Spot.{Spot}
use Rattle.jr_writes.specs.Index.{place_order}
use Rattle.jr_writes.specs.Names.{in_sheet}

-- the sheet at a file and a number
abbrev pub sheet_at_place : List ((ℕ × ℕ) × Sheet Spot) → ℕ × ℕ → Option (Sheet Spot)
sheet_at_place sheets place = lookup (is_at (place_order place)) sheets

-- what stands at a sector of a file
unfoldable pub sector_at : List ((ℕ × ℕ) × Sheet Spot) → ℕ × ℕ → Option Spot
sector_at sheets at = in_sheet (sheet_at_place sheets (at.0, at.1 / 4096)) (at.1 % 4096)

-- what stands at an offset of a file: nothing but where a sector begins
unfoldable pub spot_at : List ((ℕ × ℕ) × Sheet Spot) → ℕ × ℕ → Option Spot
spot_at sheets place = if place.1 % 512 == 0 then sector_at sheets (place.0, place.1 / 512) else None

-- no sheet is empty
abbrev pub HasNoEmptySheet : List ((ℕ × ℕ) × Sheet Spot) → Type 0
HasNoEmptySheet sheets =
    (place : ℕ × ℕ) (sheet : Sheet Spot) → sheet_at_place sheets place ≡ Some sheet → sheet.rows.taken ≡ 0 → ⊥

-- the last sector of a sheet before its end at which something stands, and what
abbrev pub IsLastOn : (ℕ × ℕ → Option Spot) → ℕ × ℕ → ℕ → Option (ℕ × Spot) → Type 0
IsLastOn spot_in name end found =
    MatchOption found
    ((q : ℕ) → q / 4096 ≡ name.1 → q < name.1 * 4096 + end → spot_in (name.0, q) ≡ None)
    (λ f. (f.0 % 512 ≡ 0) × (spot_in (name.0, f.0 / 512) ≡ Some f.1) × (f.0 / 512 / 4096 ≡ name.1) × (f.0 / 512 < name.1 * 4096 + end)
    × ((q : ℕ) → f.0 / 512 < q → q / 4096 ≡ name.1 → q < name.1 * 4096 + end → spot_in (name.0, q) ≡ None))

-- the last sector of a file before a sheet at which something stands, and what
abbrev pub IsLastAbove : (ℕ × ℕ → Option Spot) → ℕ × ℕ → Option (ℕ × Spot) → Type 0
IsLastAbove spot_in name found =
    MatchOption found
    ((q : ℕ) → q / 4096 < name.1 → spot_in (name.0, q) ≡ None)
    (λ f. (f.0 % 512 ≡ 0) × (spot_in (name.0, f.0 / 512) ≡ Some f.1) × (f.0 / 512 / 4096 < name.1)
    × ((q : ℕ) → f.0 / 512 < q → q / 4096 < name.1 → spot_in (name.0, q) ≡ None))

-- this at an offset
abbrev pub with_offset : ℕ → Option Spot → Option (ℕ × Spot)
with_offset offset None = None
with_offset offset (Some spot) = Some (offset, spot)

-- what stands at a place of a sheet, with its offset
abbrev pub placed : ℕ → (ℕ → Option Spot) → Option ℕ → Option (ℕ × Spot)
placed number at None = None
placed number at (Some place) = with_offset ((number * 4096 + place) * 512) (at place)
