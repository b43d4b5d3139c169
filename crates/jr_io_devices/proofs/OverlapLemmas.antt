-- Lemmas on a search for an extent that overlaps with another one.
use Rattle.std.proofs.Common.{◌≡◌, ℕ, ◌+◌, ◌<◌, List, slice_get, Some, sym, ◌∙◌, below_more, subst}
use Rattle.jr_io_devices.specs.declared.extents.Extent.{Extent}
use Rattle.jr_io_devices.specs.Extents.{IsClearOf, IsFirstOverlap, Overlap, OverlapAt}

same_extent : (x y : Extent) → Some x ≡ Some y → x ≡ y
same_extent x y e = cc

-- one more extent that doesn't overlap
pub clear_of_more : (extents : List Extent) (n place : ℕ) (x y : Extent) → slice_get extents n ≡ Some x → slice_get extents place ≡ Some y → ¬ (Overlap x y) → IsClearOf extents n place → IsClearOf extents (n + 1) place
clear_of_more extents n place x y here there clear below =
    below_more (λ k. ¬ (OverlapAt extents k place)) n below
    (λ o. clear (subst (λ z. Overlap z y) (same_extent o.one x (sym o.here ∙ here)) (subst (λ z. Overlap o.one z) (same_extent o.other y (sym o.there ∙ there)) o.overlap)))

-- the first that does
pub first_overlap : (extents : List Extent) (first place : ℕ) (x y : Extent) → first < place → slice_get extents first ≡ Some x → slice_get extents place ≡ Some y → Overlap x y → IsClearOf extents first place → IsFirstOverlap extents first place
first_overlap extents first place x y order here there overlap least =
    record { order = order; overlap = record { one = x; other = y; here = here; there = there; overlap = overlap }; least = least }
