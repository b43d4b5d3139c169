-- Numbers that are some, and numbers in order, by the tests that say so; and bits of a number.
use Rattle.std.proofs.Common.{◌≡◌, ℕ, ◌+◌, ◌/◌, ◌%◌, ◌^◌, ◌<◌, false, nat_cmp, Less, Equal, w64, sym, ap, arith}
use Rattle.std.specs.Cmp.{nat_cmp_is}
use Rattle.std.specs.Int.{bit_at, bit_not}
use Rattle.std.specs.Prelude.{◌==◌}
use Rattle.std.proofs.lemmas.Bool.{ne_eqb}
use Rattle.std.proofs.lemmas.Nat.{shr-shr}
use Rattle.std.proofs.lemmas.Nat.Bits.{bit_at-lt, bit_at_not}

pub some_by_name : (n : ℕ) → (n ≡ 0 → ⊥) → 0 < n
some_by_name n none = omega (arith, none)

pub some_by_test : (n : ℕ) → 0 < n → (n == 0) ≡ false
some_by_test n some = ne_eqb n 0 (λ same. absurd (omega (arith, some, same)))

pub one_more_is_some : (n : ℕ) → (1 + n == 0) ≡ false
one_more_is_some n = ne_eqb (1 + n) 0 (λ same. absurd (omega (arith, same)))

pub less_of : (x y : ℕ) → x < y → nat_cmp x y ≡ Less
less_of x y below = sym (nat_cmp_is x y Less below)

pub equal_of : (x y : ℕ) → x ≡ y → nat_cmp x y ≡ Equal
equal_of x y same = sym (nat_cmp_is x y Equal same)

pub bit_at-shr : (n k i : ℕ) → bit_at (n / 2 ^ k) i ≡ bit_at n (k + i)
bit_at-shr n k i = ap (λ (x : ℕ). x % 2) (shr-shr n k i)

pub one_from_not : (w j : ℕ) → w < 2 ^ 64 → j < 64 → bit_at (bit_not w64 w) j ≡ 0 → bit_at w j ≡ 1
one_from_not w j fits within h = omega (arith, h, bit_at_not w64 w j fits within, bit_at-lt w j)
