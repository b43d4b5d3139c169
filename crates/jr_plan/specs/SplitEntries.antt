-- Believed: what a split of block sizes is (`IsSplit`); the rest is internal: how its entries, pairs of a size and a percent, lie in a
-- fixed array (of this project).
use Rattle.std.specs.Prelude.{◌≡◌, ℕ, ◌≤◌, ◌-◌, List, ◌++◌, length, take, replicate, sum_by}
use Rattle.std.proofs.Common.{arith, length-take}

-- the entries, and empty ones up to 64
abbrev pub padded : List (ℕ × ℕ) → List (ℕ × ℕ)
padded entries = entries ++ replicate (64 - length entries) (0, 0)

-- the sum of the percents
abbrev pub percents_total : List (ℕ × ℕ) → ℕ
percents_total entries = sum_by (λ (entry : ℕ × ℕ). entry.1) entries

-- 1 to 64 entries that share 100 percent
pub record IsSplit (entries : List (ℕ × ℕ)) : Type 0 where
  pub least : 1 ≤ length entries
  pub most : length entries ≤ 64
  pub total : percents_total entries ≡ 100

-- an array of 64 entries whose first n, 1 to 64 of them, count and share 100 percent, and whose others are empty
pub record IsPadded (n : ℕ) (entries : List (ℕ × ℕ)) : Type 0 where
  pub least : 1 ≤ n
  pub most : n ≤ 64
  pub size : length entries ≡ 64
  pub rest : entries ≡ padded (take n entries)
  pub total : percents_total (take n entries) ≡ 100

-- the first n of such an array are n
pub length-IsPadded : (n : ℕ) (entries : List (ℕ × ℕ)) → IsPadded n entries → length (take n entries) ≡ n
length-IsPadded n entries h = omega (arith, length-take n entries, h.most, h.size)
