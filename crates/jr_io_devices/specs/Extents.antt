-- Believed: which bytes of a disk or of a file those of a device are, and when two devices have bytes in common.
use Rattle.std.specs.Prelude.{◌≡◌, ℕ, ◌+◌, ◌*◌, ◌-◌, ◌^◌, ◌<◌, List, length, slice_get, Some, min}
use Rattle.jr_io_devices.specs.declared.identities.Identity.{Identity}
use Rattle.jr_io_devices.specs.declared.extents.Extent.{Extent}
use Rattle.jr_io_devices.specs.declared.extents.Below.{Below}
use Rattle.jr_io_devices.specs.declared.extents.Below.TheVariants as below

-- a byte of each has the same place in the same disk or file
pub record Overlap (one other : Extent) : Type 0 where
  pub what : one.what ≡ other.what
  pub begins : one.start < other.start + other.length
  pub ends : other.start < one.start + one.length

-- the same bytes, as those of what their device is a part of and where it begins at this byte
abbrev pub within : Extent → Identity → ℕ → Extent
within extent whole start = record { what = whole; start = min (start + extent.start) (2 ^ 64 - 1); length = extent.length }

-- the byte at which a partition begins, whose first sector this is: the kernel counts in sectors of 512 bytes
abbrev pub sector_start : ℕ → ℕ
sector_start sector = min (sector * 512) (2 ^ 64 - 1)

-- the same bytes, as those of the disk of their partition, or of the file under their loop device
abbrev pub extent_in : Extent → Below → Extent
extent_in extent (below.Disk disk sector) = within extent disk (sector_start sector)
extent_in extent (below.File file offset) = within extent file offset

-- of these extents those at the two places overlap
pub record OverlapAt (extents : List Extent) (first second : ℕ) : Type 0 where
  pub one : Extent
  pub other : Extent
  pub here : slice_get extents first ≡ Some one
  pub there : slice_get extents second ≡ Some other
  pub overlap : Overlap one other

-- none of the first n extents overlaps with the one at this place
abbrev pub IsClearOf : List Extent → ℕ → ℕ → Type 0
IsClearOf extents n place = (k : ℕ) → k < n → ¬ (OverlapAt extents k place)

-- no two of the first n extents overlap
abbrev pub AreClear : List Extent → ℕ → Type 0
AreClear extents n = (place : ℕ) → place < n → IsClearOf extents place place

-- of the extents before this place, the first that overlaps with the one there
pub record IsFirstOverlap (extents : List Extent) (first place : ℕ) : Type 0 where
  pub order : first < place
  pub overlap : OverlapAt extents first place
  pub least : IsClearOf extents first place

-- the first extent that overlaps with an earlier one, and the first that it overlaps with
pub record AreFirstOverlap (extents : List Extent) (first second : ℕ) : Type 0 where
  pub inside : second < length extents
  pub overlaps : IsFirstOverlap extents first second
  pub clear : AreClear extents second
