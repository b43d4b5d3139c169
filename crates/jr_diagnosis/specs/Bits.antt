-- Believed: in which bits bytes differ from those that were written (of this project).
use Rattle.std.specs.Prelude.{ℕ, List, count_ones, length, map, sum_by, slice_index, unwrap_or}
use Rattle.std.specs.Int.Bits.{bit_and, bit_xor}
use Rattle.std.specs.List.{range_with_len}
use Rattle.jr_model.specs.Judgement.{first_difference}

-- how many bits are 1 in a byte as it was read that were 0 as it was written, and how many the other way round
abbrev pub raised_in : ℕ → ℕ → ℕ
raised_in written read = count_ones (bit_and read (bit_xor written read))

abbrev pub cleared_in : ℕ → ℕ → ℕ
cleared_in written read = count_ones (bit_and written (bit_xor written read))

-- a count over the first n bytes of both
abbrev pub counted : (ℕ → ℕ → ℕ) → List ℕ → List ℕ → ℕ → ℕ
counted count written read n =
    sum_by (λ (k : ℕ). k) (map (λ (i : ℕ). count (slice_index written i) (slice_index read i)) (range_with_len 0 n))

-- over all of them
abbrev pub raised_between : List ℕ → List ℕ → ℕ
raised_between written read = counted raised_in written read (length read)

abbrev pub cleared_between : List ℕ → List ℕ → ℕ
cleared_between written read = counted cleared_in written read (length read)

-- the place of the first byte that isn't the one that was written; 0 where there is none
abbrev pub first_wrong : List ℕ → List ℕ → ℕ
first_wrong written read = unwrap_or (first_difference read written) 0
