-- Believed: which 512 bytes of a block are those that were written (of this project).
use Rattle.std.specs.Prelude.{ℕ, ◌+◌, ◌*◌, ◌/◌, nat_lt, Bool, List, length, map, sum_by, slice_range, if◌then◌else◌}
use Rattle.std.specs.List.{range_with_len}
use Rattle.jr_model.specs.declared.limits.TheConstants.{SECTOR}
use Rattle.jr_model.specs.Judgement.{same_bytes}

-- the 512 bytes of this number
abbrev pub sector_of : List ℕ → ℕ → List ℕ
sector_of bytes i = slice_range bytes (i * SECTOR) (i * SECTOR + SECTOR)

-- they are those that were written
abbrev pub is_right : List ℕ → List ℕ → ℕ → Bool
is_right written read i = same_bytes (sector_of read i) (sector_of written i)

-- 1 if they are, or else 0
abbrev pub right_at : List ℕ → List ℕ → ℕ → ℕ
right_at written read i = if is_right written read i then 1 else 0

-- how many of the first n are
abbrev pub right_among : List ℕ → List ℕ → ℕ → ℕ
right_among written read n = sum_by (λ (k : ℕ). k) (map (right_at written read) (range_with_len 0 n))

-- how many of all
abbrev pub right_sectors : List ℕ → List ℕ → ℕ
right_sectors written read = right_among written read (length read / SECTOR)

-- how many of so many are told one by one
abbrev pub told_sectors : ℕ → ℕ
told_sectors count = if nat_lt count 64 then count else 64

-- of each of these whether it is right
abbrev pub first_sectors : List ℕ → List ℕ → List Bool
first_sectors written read = map (is_right written read) (range_with_len 0 (told_sectors (length read / SECTOR)))
