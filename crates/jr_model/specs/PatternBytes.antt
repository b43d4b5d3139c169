-- Internal: how a pattern's 1 to 64 bytes lie in a fixed array (of this project).
use Rattle.std.specs.Prelude.{◌≡◌, ℕ, ◌≤◌, ◌-◌, List, ◌++◌, length, take, replicate}
use Rattle.std.proofs.Common.{arith, length-take}

-- the bytes, and zeros up to 64
abbrev pub padded : List ℕ → List ℕ
padded bytes = bytes ++ replicate (64 - length bytes) 0

-- an array of 64 bytes whose first n, 1 to 64 of them, count, and whose others are zeros
pub record IsPadded (n : ℕ) (bytes : List ℕ) : Type 0 where
  pub least : 1 ≤ n
  pub most : n ≤ 64
  pub size : length bytes ≡ 64
  pub rest : bytes ≡ padded (take n bytes)

-- the first n of such an array are n
pub length-IsPadded : (n : ℕ) (bytes : List ℕ) → IsPadded n bytes → length (take n bytes) ≡ n
length-IsPadded n bytes h = omega (arith, length-take n bytes, h.most, h.size)
