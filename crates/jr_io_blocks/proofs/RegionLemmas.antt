-- Lemmas on the regions of a file.
use Rattle.std.proofs.Common.{◌≡◌, ℕ, ◌+◌, ◌*◌, ◌/◌, ◌%◌, ◌<◌, ◌≤◌, refl, arith}
use Rattle.std.proofs.Math.Nat.{div-mul-le_self}
use Rattle.std.proofs.lemmas.Nat.{div-add-mod', div_below, le-div, mod_below}
use Rattle.jr_io_blocks.specs.Regions.{IsCut, region_of}

-- a number is below the next multiple of another
below_next : (n m : ℕ) → 0 < m → n < (n / m + 1) * m
below_next n m some =
    let whole : n / m * m + n % m ≡ n = div-add-mod' n m in
    let rest : n % m < m = mod_below n m some in
    omega (arith, whole, rest)

-- the regions of a file are cut right
pub is_cut : (high : ℕ) → IsCut high ((high / 67108864 + 1) * 4096) (high / ((high / 67108864 + 1) * 4096) + 1)
is_cut high =
    let pages : ℕ = high / 67108864 + 1 in
    let some : 0 < pages * 4096 = omega arith in
    let high_below : high < pages * 67108864 = below_next high 67108864 (omega arith) in
    let few : high / (pages * 4096) < 16384 = div_below high (pages * 4096) 16384 some (omega (arith, high_below)) in
    record {
      pages = pages;
      some = omega arith;
      whole = refl;
      least = omega arith;
      most = omega (arith, few);
      all = below_next high (pages * 4096) some;
    }

-- a byte further on is in no earlier region
pub region_mono : (size count a b : ℕ) → 0 < size → a ≤ b → region_of size count a ≤ region_of size count b
region_mono size count a b some order =
    let under : a / size * size ≤ a = div-mul-le_self a size in
    let rows : a / size ≤ b / size = le-div (a / size) b size some (omega (arith, under)) in
    omega (arith, rows)
