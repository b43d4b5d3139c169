-- What the numbers' proofs share: values of digits, and the powers of a unit.
use Rattle.std.proofs.Common.{◌≡◌, ℕ, ◌*◌, ◌^◌, ◌<◌, ◌≤◌, zero, suc, List, true, false, All, Err, lit<, lit≤, arith}
use Rattle.jr_text.specs.Number.{digit_count, digits_in, is_hexadecimal, number_of, scaled, small_number, unit_in, unit_of}
use Rattle.jr_text.specs.declared.faults.NumFault.TheVariants.{NoDigits, TooLarge, UnitOutOfScope}
use Rattle.std.specs.Char.{is_ascii_digit}
use Rattle.std.specs.List.{prefix_len}
use Rattle.std.proofs.Math.Nat.{mul-le-mul_left}
use Rattle.std.proofs.lemmas.Bool.Decides.{nat_tests}
use Rattle.std.proofs.lemmas.List.{get_or-take}
use Rattle.std.proofs.lemmas.List.Sums.{prefix_len_passes}
use Rattle.std.proofs.lemmas.List.Folds.{length-prefix_len}

-- the scale of a unit fits 64 bits
pub scale_small : (power : ℕ) → power < 6 → 1024 ^ power < 2 ^ 64
scale_small zero h = lit< tt
scale_small (suc zero) h = lit< tt
scale_small (suc (suc zero)) h = lit< tt
scale_small (suc (suc (suc zero))) h = lit< tt
scale_small (suc (suc (suc (suc zero)))) h = lit< tt
scale_small (suc (suc (suc (suc (suc zero))))) h = lit< tt
scale_small (suc (suc (suc (suc (suc (suc n)))))) h = absurd (omega arith)

-- a scale isn't 0
pub scale_positive : (power : ℕ) → power < 6 → 1 ≤ 1024 ^ power
scale_positive zero h = lit≤ tt
scale_positive (suc zero) h = lit≤ tt
scale_positive (suc (suc zero)) h = lit≤ tt
scale_positive (suc (suc (suc zero))) h = lit≤ tt
scale_positive (suc (suc (suc (suc zero)))) h = lit≤ tt
scale_positive (suc (suc (suc (suc (suc zero))))) h = lit≤ tt
scale_positive (suc (suc (suc (suc (suc (suc n)))))) h = absurd (omega arith)

-- what a text begins with are digits
pub all_digits : (text : List ℕ) → All (λ b. is_ascii_digit b ≡ true) (digits_in text)
all_digits text k d l =
    let short = length-prefix_len is_ascii_digit text in
    let within : k < prefix_len is_ascii_digit text = omega arith in
    rw get_or-take (prefix_len_passes is_ascii_digit text k d within)

-- a number is refused where it is too large
pub too_large : (n : ℕ) → 2 ^ 64 ≤ n → small_number n ≡ Err TooLarge
too_large n h = grind (arith, nat_tests)

-- a number that is too large by itself is too large in any unit
pub scaled_large : (n scale : ℕ) → (n < 2 ^ 64 → ⊥) → 1 ≤ scale → small_number (n * scale) ≡ Err TooLarge
scaled_large n scale h p =
    let large : 2 ^ 64 ≤ n = omega arith in
    too_large (n * scale) (omega (arith, mul-le-mul_left n p))

-- a number, case by case
pub number_of-no_digits : (text : List ℕ) → digit_count text ≡ 0 → number_of text ≡ Err NoDigits
unfolding number_of
number_of-no_digits text none = grind (arith, nat_tests)

pub number_of-hexadecimal : (text : List ℕ) → 0 < digit_count text → is_hexadecimal text ≡ true → number_of text ≡ Err UnitOutOfScope
unfolding number_of
number_of-hexadecimal text some hexadecimal = grind (arith, nat_tests)

pub number_of-scaled : (text : List ℕ) → 0 < digit_count text → is_hexadecimal text ≡ false → number_of text ≡ scaled (digits_in text) (unit_of (unit_in text))
unfolding number_of
number_of-scaled text some decimal = grind (arith, nat_tests)
