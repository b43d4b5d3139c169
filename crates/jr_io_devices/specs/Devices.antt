-- Believed: a device's two numbers and the text of them, and the tables of the kernel that speak of devices (man 5 proc; Linux
-- keeps a device's number with 12 low and 20 high bits of the major, and 8 low and 24 high ones of the minor).
use Rattle.std.specs.Prelude.{◌≡◌, ℕ, ◌+◌, ◌*◌, ◌/◌, ◌%◌, ◌^◌, ◌==◌, ◌&&◌, Bool, false, List, [], ◌∷◌, ◌++◌, Option, Some, None, slice_get, position, codes, decimal}
use Rattle.std.specs.List.{slice_split}
use Rattle.jr_io_devices.specs.declared.devices.DeviceNumbers.{DeviceNumbers}

-- the numbers of the driver and of the device, out of the number that the system gives of a file
abbrev pub numbers_of : ℕ → DeviceNumbers
numbers_of device = record {
  major = device / 2 ^ 8 % 2 ^ 12 + device / 2 ^ 44 * 2 ^ 12;
  minor = device % 2 ^ 8 + device / 2 ^ 20 % 2 ^ 24 * 2 ^ 8;
}

-- `MAJOR:MINOR`, as the kernel's tables and /sys/dev/block name a device
abbrev pub numbers_text : DeviceNumbers → List ℕ
numbers_text numbers = decimal numbers.major ++ (codes ":" ++ decimal numbers.minor)

-- the field at this place of a line whose fields stand between single spaces, if it has so many
abbrev pub field_of : List ℕ → ℕ → Option (List ℕ)
field_of line place = slice_get (slice_split (λ b. b == 32) line) place

-- the line is of a mount of the device with this text: the third field names it
abbrev pub IsMountOf : List ℕ → List ℕ → Type 0
IsMountOf device line = field_of line 2 ≡ Some device

-- the line is of a mount of a file system that has no device of its own (btrfs, overlay, tmpfs): the third field is `0:MINOR`
abbrev pub is_driverless : List ℕ → Bool
is_driverless (b ∷ c ∷ rest) = (b == 48) && (c == 58)
is_driverless (b ∷ []) = false
is_driverless [] = false

abbrev pub if_driverless : Option (List ℕ) → Bool
if_driverless None = false
if_driverless (Some numbers) = is_driverless numbers

abbrev pub is_anonymous : List ℕ → Bool
is_anonymous line = if_driverless (field_of line 2)

-- the field is a hyphen alone
abbrev pub is_hyphen : List ℕ → Bool
is_hyphen (b ∷ []) = b == 45
is_hyphen (b ∷ c ∷ rest) = false
is_hyphen [] = false

-- what is mounted, as the line of a mount names it: behind the first hyphen stand the kind of file system and then this
abbrev pub behind_hyphen : List ℕ → Option ℕ → Option (List ℕ)
behind_hyphen line None = None
behind_hyphen line (Some hyphen) = field_of line (hyphen + 2)

abbrev pub source_of : List ℕ → Option (List ℕ)
source_of line = behind_hyphen line (position is_hyphen (slice_split (λ b. b == 32) line))
