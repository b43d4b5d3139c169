-- Believed: when two files of the system are one, whatever their names.
use Rattle.std.specs.Prelude.{◌≡◌, ◌≢◌, ℕ, ◌<◌, List, length, slice_get, cond}
use Rattle.jr_io_devices.specs.declared.identities.FileNumbers.{FileNumbers}
use Rattle.jr_io_devices.specs.declared.identities.Identity.{Identity}
use Rattle.jr_io_devices.specs.declared.identities.Identity.TheVariants as identity

-- a block device is known by its own number, whatever file names it; any other file by its file system's and its inode's
abbrev pub identity_of : FileNumbers → Identity
identity_of numbers =
    cond numbers.is_block_device (identity.Device numbers.device) (identity.Inode numbers.file_system numbers.inode)

-- none of the first n files is one with the file at this place
abbrev pub IsNewAmong : List Identity → ℕ → ℕ → Type 0
IsNewAmong files n place = (k : ℕ) → k < n → slice_get files k ≢ slice_get files place

-- no two of the first n files are one
abbrev pub AreApart : List Identity → ℕ → Type 0
AreApart files n = (place : ℕ) → place < n → IsNewAmong files place place

-- of the files before this place, the first that is one with the file there
pub record IsFirstTwin (files : List Identity) (first place : ℕ) : Type 0 where
  pub order : first < place
  pub one : slice_get files first ≡ slice_get files place
  pub least : IsNewAmong files first place

-- the first file that is one with an earlier one, and the first that it is one with
pub record AreFirstTwins (files : List Identity) (first second : ℕ) : Type 0 where
  pub inside : second < length files
  pub twin : IsFirstTwin files first second
  pub apart : AreApart files second
