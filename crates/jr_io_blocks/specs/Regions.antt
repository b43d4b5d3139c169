-- Believed: the regions of a file, by which is kept where it was written.
use Rattle.std.specs.Prelude.{◌≡◌, ℕ, ◌-◌, ◌*◌, ◌/◌, ◌<◌, ◌≤◌, min}

-- the region that a byte is in, of so many of this size
abbrev pub region_of : ℕ → ℕ → ℕ → ℕ
region_of size count place = min (place / size) (count - 1)

-- a file that is used up to `high` is cut into so many regions of this size: whole pages, and every byte has a region of this size
pub record IsCut (high size count : ℕ) : Type 0 where
  pub pages : ℕ
  pub some : 0 < pages
  pub whole : size ≡ pages * 4096
  pub least : 0 < count
  pub most : count ≤ 16384
  pub all : high < count * size
