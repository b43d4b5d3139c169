-- Bytes of a generator, part by part.
use Rattle.std.proofs.Common.{◌≡◌, ℕ, zero, suc, ◌+◌, ◌-◌, ◌*◌, ◌/◌, ◌%◌, ◌<◌, ◌≤◌, List, [], ◌∷◌, ◌++◌, take, drop, refl, sym, ap, ◌∙◌, arith}
use Rattle.std.specs.Int.{w64, to_le_bytes}
use Rattle.std.proofs.Math.Nat.{mod-lt, mul-mod_left}
use Rattle.std.proofs.lemmas.Nat.{div-add-mod'}
use Rattle.std.proofs.lemmas.Grind.{flat_map-append}
use Rattle.jr_model.specs.Content.{generated_bytes}
use Rattle.jr_model.specs.Words.{seeded, words_from, state_after, word_bytes}
use Rattle.jr_words.proofs.WordLemmas.{words_from-add, state_after-add}

pub generated-none : (seed : ℕ) → generated_bytes seed 0 ≡ []
unfolding words_from
generated-none seed = refl

pub after-none : (state : List ℕ) → state_after state 0 ≡ state
unfolding state_after
after-none state = refl

take-nil : (n : ℕ) → take {A = ℕ} n [] ≡ []
take-nil zero = refl
take-nil (suc n) = refl

-- so many bytes more
pub generated-more : (seed a n : ℕ) → a % 8 ≡ 0 → n % 8 ≡ 0
    → generated_bytes seed a ++ word_bytes (words_from (state_after (seeded seed) (a / 8)) (n / 8)) ≡ generated_bytes seed (a + n)
generated-more seed a n whole more =
    let sum : a / 8 + n / 8 ≡ (a + n) / 8 = omega (arith, whole, more) in
    sym (flat_map-append (to_le_bytes w64) (words_from (seeded seed) (a / 8)) (words_from (state_after (seeded seed) (a / 8)) (n / 8)))
    ∙ ap word_bytes (sym (words_from-add (a / 8) (n / 8) (seeded seed)))
    ∙ ap (λ (k : ℕ). word_bytes (words_from (seeded seed) k)) sum

pub after-more : (seed a n : ℕ) → a % 8 ≡ 0 → n % 8 ≡ 0 → state_after (state_after (seeded seed) (a / 8)) (n / 8) ≡ state_after (seeded seed) ((a + n) / 8)
after-more seed a n whole more =
    let sum : a / 8 + n / 8 ≡ (a + n) / 8 = omega (arith, whole, more) in
    sym (state_after-add (a / 8) (n / 8) (seeded seed)) ∙ ap (state_after (seeded seed)) sum

-- the first elements, and those behind them
pub take-more : (a n : ℕ) (xs : List ℕ) → take (a + n) xs ≡ take a xs ++ take n (drop a xs)
take-more zero n xs = let e : zero + n ≡ n = omega arith in ap (λ (k : ℕ). take k xs) e
take-more (suc a) n [] = let e : suc a + n ≡ suc (a + n) = omega arith in ap (λ (k : ℕ). take k []) e ∙ sym (take-nil n)
take-more (suc a) n (x ∷ xs) =
    let e : suc a + n ≡ suc (a + n) = omega arith in
    ap (λ (k : ℕ). take k (x ∷ xs)) e ∙ ap (λ (ys : List ℕ). x ∷ ys) (take-more a n xs)

-- the most whole multiples of p within n
pub cut_whole : (n p : ℕ) → 1 ≤ p → p ≤ n → (0 < n - n % p) × ((n - n % p) % p ≡ 0)
cut_whole n p some fits =
    let parts = div-add-mod' n p in
    let less : n % p < p = mod-lt n some in
    let cut : n - n % p ≡ n / p * p = omega (arith, parts) in
    let zero_left : (n / p * p) % p ≡ 0 = mul-mod_left (n / p) p in
    (omega (arith, less, fits, some), ap (λ (k : ℕ). k % p) cut ∙ zero_left)
