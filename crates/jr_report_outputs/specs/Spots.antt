-- Believed: when two places of files are one, whatever their names: a file that is there is known by its identity, a device of characters
-- by its number, and a file that isn't there yet by its folder's identity and its name in it.
use Rattle.std.specs.Prelude.{◌≡◌, ℕ, ◌<◌, List, slice_get, Some, string_bytes}
use Rattle.jr_report_outputs.specs.declared.spots.Spot.{Spot}
use Rattle.jr_report_outputs.specs.declared.spots.Spot.TheVariants as spot

abbrev pub IsOne : Spot → Spot → Type 0
IsOne (spot.File one) (spot.File other) = one ≡ other
IsOne (spot.Character one) (spot.Character other) = one ≡ other
IsOne (spot.Ahead folder name) (spot.Ahead other_folder other) = (folder ≡ other_folder) × (string_bytes name ≡ string_bytes other)
IsOne (spot.File one) (spot.Character other) = ⊥
IsOne (spot.File one) (spot.Ahead folder name) = ⊥
IsOne (spot.Character one) (spot.File other) = ⊥
IsOne (spot.Character one) (spot.Ahead folder name) = ⊥
IsOne (spot.Ahead folder name) (spot.File other) = ⊥
IsOne (spot.Ahead folder name) (spot.Character other) = ⊥

-- none of the first n is the place
abbrev pub MeetsNone : Spot → List Spot → ℕ → Type 0
MeetsNone spot others n = (k : ℕ) → k < n → (other : Spot) → slice_get others k ≡ Some other → IsOne other spot → ⊥

-- the first that is the place
pub record IsFirstMet (spot : Spot) (others : List Spot) (place : ℕ) : Type 0 where
  pub met : Spot
  pub there : slice_get others place ≡ Some met
  pub one : IsOne met spot
  pub first : MeetsNone spot others place
