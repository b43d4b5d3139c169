-- Believed: which block sizes fit a cell (fio's manual, "Block size"; the limits are of this project). Sizes are in bytes.
use Rattle.std.specs.Prelude.{ℕ, ◌%◌, nat_le, ◌==◌, Bool, ◌&&◌, ◌||◌, List}
use Rattle.std.specs.List.{list_all}
use Rattle.jr_model.specs.declared.limits.TheConstants.{LARGEST_BLOCK}

-- a size that is given at all is a multiple of the cell, from the cell on up to the largest block
abbrev pub entry_fits : ℕ → ℕ × ℕ → Bool
entry_fits cell entry =
    (entry.1 == 0) || (nat_le cell entry.0 && (entry.0 % cell == 0) && nat_le entry.0 LARGEST_BLOCK)

abbrev pub split_fits : ℕ → List (ℕ × ℕ) → Bool
split_fits cell split = list_all (entry_fits cell) split
