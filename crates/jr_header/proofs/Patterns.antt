-- A pattern repeated from its first byte, byte by byte.
use Rattle.std.proofs.Common.{◌≡◌, ℕ, zero, suc, ◌+◌, ◌-◌, ◌%◌, ◌<◌, ◌≤◌, List, ◌++◌, length, take, drop, get_or, refl, sym, ap, ◌∙◌, zero-add, inl, inr, ◌⊎◌, arith, length-append}
use Rattle.std.proofs.Math.Nat.{mod-eq_of_lt, add-mod_left, mod-add-mod}
use Rattle.std.proofs.lemmas.Bool.{cases_lt}
use Rattle.std.proofs.lemmas.List.{ext_get_or, get_or-take, get_or-drop, get_or_append_left, get_or-append_right, take-take, length-take-le}
use Rattle.std.proofs.lemmas.List.FromFn.{get_or-map-range_with_len, length-map-range_with_len, take-map-range_with_len}
use Rattle.jr_model.specs.Content.{pattern_bytes}

-- the byte of the pattern that stands at place i
abbrev byte_at : List ℕ → ℕ → ℕ
byte_at p i = get_or p (i % length p) 0

pub get_or-pattern_bytes : (p : List ℕ) (n i : ℕ) → i < n → get_or (pattern_bytes p n) i 0 ≡ get_or p (i % length p) 0
get_or-pattern_bytes p n i below = get_or-map-range_with_len (byte_at p) 0 n i i 0 below (zero-add i)

pub length-pattern_bytes : (p : List ℕ) (n : ℕ) → length (pattern_bytes p n) ≡ n
length-pattern_bytes p n = length-map-range_with_len (byte_at p) 0 n

-- a list whose every byte is the pattern's
pub repeats : (p xs : List ℕ) (n : ℕ) → length xs ≡ n → ((i : ℕ) → i < n → get_or xs i 0 ≡ get_or p (i % length p) 0) → xs ≡ pattern_bytes p n
repeats p xs n size each =
    ext_get_or 0 xs (pattern_bytes p n) (size ∙ sym (length-pattern_bytes p n))
    (λ i below. let within : i < n = omega arith in each i within ∙ sym (get_or-pattern_bytes p n i within))

-- the pattern's own first bytes
pub take-pattern : (p : List ℕ) (n : ℕ) → n ≤ length p → take n p ≡ pattern_bytes p n
take-pattern p n fits =
    repeats p (take n p) n (length-take-le n p fits)
    (λ i below. let inside : i < length p = omega arith in
    get_or-take n p i 0 below ∙ ap (λ (k : ℕ). get_or p k 0) (sym (mod-eq_of_lt inside)))

-- behind whole patterns it begins anew
pub mod_behind : (a k c : ℕ) → a % c ≡ 0 → (a + k) % c ≡ k % c
mod_behind a k c whole = sym (mod-add-mod a c k) ∙ ap (λ (r : ℕ). (r + k) % c) whole ∙ ap (λ (r : ℕ). r % c) (zero-add k)

pub append-pattern_bytes : (p : List ℕ) (a m : ℕ) → a % length p ≡ 0 → pattern_bytes p a ++ pattern_bytes p m ≡ pattern_bytes p (a + m)
append-pattern_bytes p a m whole =
    repeats p (pattern_bytes p a ++ pattern_bytes p m) (a + m)
    (length-append (pattern_bytes p a) (pattern_bytes p m) ∙ omega (arith, length-pattern_bytes p a, length-pattern_bytes p m))
    (λ i below. at i below (cases_lt i a))
  where
    at : (i : ℕ) → i < a + m → (i < a) ⊎ (a ≤ i) → get_or (pattern_bytes p a ++ pattern_bytes p m) i 0 ≡ get_or p (i % length p) 0
    at i below (inl front) =
        let inside : i < length (pattern_bytes p a) = omega (arith, length-pattern_bytes p a) in
        get_or_append_left (pattern_bytes p a) (pattern_bytes p m) 0 i inside ∙ get_or-pattern_bytes p a i front
    at i below (inr back) =
        let less : i - a < m = omega arith in
        let sum : a + (i - a) ≡ i = omega arith in
        get_or-append_right (pattern_bytes p a) (pattern_bytes p m) a i 0 (length-pattern_bytes p a) back
        ∙ get_or-pattern_bytes p m (i - a) less
        ∙ ap (λ (r : ℕ). get_or p r 0) (sym (mod_behind a (i - a) (length p) whole) ∙ ap (λ (r : ℕ). r % length p) sum)

-- the first bytes copied behind whole patterns
pub begun_more : (p old new : List ℕ) (done next : ℕ)
    → done % length p ≡ 0 → done ≤ next → next ≤ done + done → take done old ≡ pattern_bytes p done
    → take next new ≡ take done old ++ take (next - done) old → take next new ≡ pattern_bytes p next
begun_more p old new done next whole more most before copied =
    let m = next - done in
    let fits : m ≤ done = omega arith in
    let sum : done + m ≡ next = omega arith in
    let front : take m old ≡ pattern_bytes p m =
    sym (take-take m done old fits) ∙ ap (take m) before ∙ take-map-range_with_len (byte_at p) 0 done m fits in
    copied ∙ ap (λ (xs : List ℕ). xs ++ take m old) before ∙ ap (λ (xs : List ℕ). pattern_bytes p done ++ xs) front
    ∙ append-pattern_bytes p done m whole ∙ ap (pattern_bytes p) sum

-- a list that begins with the pattern, and whose every byte is the one that stands a whole pattern before it
pub follows_pattern : (p xs : List ℕ) → 1 ≤ length p → length p ≤ length xs → take (length p) xs ≡ p
    → drop (length p) xs ≡ take (length xs - length p) xs → xs ≡ pattern_bytes p (length xs)
follows_pattern p xs least fits begins shifted = repeats p xs (length xs) refl (λ i below. each (suc i) i (omega arith) below)
  where
    each : (m i : ℕ) → i < m → i < length xs → get_or xs i 0 ≡ get_or p (i % length p) 0
    each zero i low below = absurd (omega arith)
    each (suc m) i low below = elim (cases_lt i (length p)) [
      | inl front ↦
          sym (get_or-take (length p) xs i 0 front) ∙ ap (λ (ys : List ℕ). get_or ys i 0) begins
          ∙ ap (λ (k : ℕ). get_or p k 0) (sym (mod-eq_of_lt front))
      | inr back ↦
          let sum : length p + (i - length p) ≡ i = omega arith in
          let less : i - length p < length xs - length p = omega arith in
          ap (λ (k : ℕ). get_or xs k 0) (sym sum) ∙ sym (get_or-drop (length p) xs (i - length p) 0)
          ∙ ap (λ (ys : List ℕ). get_or ys (i - length p) 0) shifted
          ∙ get_or-take (length xs - length p) xs (i - length p) 0 less
          ∙ each m (i - length p) (omega arith) (omega arith)
          ∙ ap (λ (r : ℕ). get_or p r 0) (sym (add-mod_left (length p) (i - length p)) ∙ ap (λ (r : ℕ). r % length p) sum)
    ]
