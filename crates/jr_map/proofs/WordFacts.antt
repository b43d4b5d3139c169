-- What follows from the definitions of words and their bits, for the words that are read.
use Rattle.std.proofs.Common.{◌≡◌, ℕ, ◌+◌, ◌-◌, ◌*◌, ◌/◌, ◌%◌, ◌^◌, ◌<◌, ◌≤◌, true, false, List, length, get_or, set, replicate, w64, sym, ap, ◌∙◌, inl, inr, arith, eq-eqb}
use Rattle.std.specs.Prelude.{◌==◌}
use Rattle.std.specs.Int.{bit_at, bit_not, trailing_zeros, trailing_ones}
use Rattle.std.proofs.Math.Nat.{div-le_self}
use Rattle.std.proofs.lemmas.Bool.{cases_lt, cases_eq, eqb-true, eqb-false, ne_eqb, false≢true}
use Rattle.std.proofs.lemmas.List.{get_or_default, get_or_past, get_or-replicate, get_or-set_same, get_or-set_other, length-set, length-replicate}
use Rattle.std.proofs.lemmas.Nat.Bits.{bit_at-zero, bit_at-lt, bit_at_ones, bit_at_not, bit_at_above, bit_at-trailing_zeros, bit_at-trailing_ones, bit_at_mask_inside, bit_at_mask_below, ones_shl, same_from_bits_below}
use Rattle.jr_model.proofs.NumberLemmas.{bit_at-shr, one_from_not}
use Rattle.jr_map.specs.Words.{full_word, word_at, is_full, is_set, IsSetFrom, IsLeastClear, AllSetInWord}
use Rattle.jr_map.specs.Levels.{words_for}

-- ---- the bits of a number

-- a number shifted down to 0 has no bit from there on
pub none_from : (n k : ℕ) → n / 2 ^ k ≡ 0 → (j : ℕ) → k ≤ j → bit_at n j ≡ 0
none_from n k h j le =
    let e : k + (j - k) ≡ j = omega arith in
    ap (bit_at n) (sym e) ∙ sym (bit_at-shr n k (j - k)) ∙ ap (λ (x : ℕ). bit_at x (j - k)) h ∙ bit_at-zero (j - k)

-- the lowest bit of a number from k on stands t above k
pub record IsLowestFrom (n k t : ℕ) : Type 0 where
  pub within : k + t < 64
  pub here : bit_at n (k + t) ≡ 1
  pub before : (j : ℕ) → k ≤ j → j < k + t → bit_at n j ≡ 0

-- otherwise its zeros there count up to its lowest bit from there on
pub lowest_from : (n k : ℕ) → n < 2 ^ 64 → (n / 2 ^ k ≡ 0 → ⊥) → IsLowestFrom n k (trailing_zeros w64 (n / 2 ^ k))
lowest_from n k fits some =
    let small : n / 2 ^ k < 2 ^ 64 = omega (arith, div-le_self n (2 ^ k)) in
    let positive : 0 < n / 2 ^ k = omega arith in
    let lowest = bit_at-trailing_zeros w64 (n / 2 ^ k) positive small in
    let here : bit_at n (k + trailing_zeros w64 (n / 2 ^ k)) ≡ 1 = sym (bit_at-shr n k (trailing_zeros w64 (n / 2 ^ k))) ∙ lowest.1 in
    record {
      within = elim (cases_lt (k + trailing_zeros w64 (n / 2 ^ k)) 64) [
        | inl h ↦ h
        | inr h ↦ absurd (omega (arith, here, bit_at_above n 64 (k + trailing_zeros w64 (n / 2 ^ k)) fits h))
      ];
      here = here;
      before = λ j le lt.
          let e : k + (j - k) ≡ j = omega arith in
          ap (bit_at n) (sym e) ∙ sym (bit_at-shr n k (j - k)) ∙ lowest.2 (j - k) (omega arith);
    }

zero_from_not : (w j : ℕ) → w < 2 ^ 64 → j < 64 → bit_at (bit_not w64 w) j ≡ 1 → bit_at w j ≡ 0
zero_from_not w j fits within h = omega (arith, h, bit_at_not w64 w j fits within, bit_at-lt w j)

-- ---- words of a list

pub word_at-in : (ws : List ℕ) (i : ℕ) → i < length ws → word_at ws i ≡ get_or ws i 0
unfolding word_at
word_at-in ws i h = get_or_default ws i full_word 0 h

pub word_at-past : (ws : List ℕ) (i : ℕ) → length ws ≤ i → word_at ws i ≡ full_word
unfolding word_at
word_at-past ws i h = get_or_past ws i full_word h

pub word_at-set_same : (ws : List ℕ) (i w : ℕ) → i < length ws → word_at (set ws i w) i ≡ w
unfolding word_at
word_at-set_same ws i w h = get_or-set_same ws i w full_word h

pub word_at-set_other : (ws : List ℕ) (i j w : ℕ) → (j ≡ i → ⊥) → word_at (set ws i w) j ≡ word_at ws j
unfolding word_at
word_at-set_other ws i j w ne = get_or-set_other ws i j w full_word ne

word_at-replicate : (n i : ℕ) → i < n → word_at (replicate n 0) i ≡ 0
unfolding word_at
word_at-replicate n i h = get_or-replicate n i 0 full_word h

-- ---- bits of a list

pub set_at : (ws : List ℕ) (p i w : ℕ) → p / 64 ≡ i → word_at ws i ≡ w → bit_at w (p % 64) ≡ 1 → is_set ws p ≡ true
unfolding is_set
set_at ws p i w place word h =
    eq-eqb _ _ (ap (λ (j : ℕ). bit_at (word_at ws j) (p % 64)) place ∙ ap (λ (v : ℕ). bit_at v (p % 64)) word ∙ h)

pub clear_at : (ws : List ℕ) (p i w : ℕ) → p / 64 ≡ i → word_at ws i ≡ w → bit_at w (p % 64) ≡ 0 → is_set ws p ≡ false
unfolding is_set
clear_at ws p i w place word h =
    let zero : bit_at (word_at ws (p / 64)) (p % 64) ≡ 0 =
    ap (λ (j : ℕ). bit_at (word_at ws j) (p % 64)) place ∙ ap (λ (v : ℕ). bit_at v (p % 64)) word ∙ h in
    ne_eqb _ _ (λ one. absurd (omega (arith, zero, one)))

pub one_at : (ws : List ℕ) (p i : ℕ) → p / 64 ≡ i → is_set ws p ≡ true → bit_at (word_at ws i) (p % 64) ≡ 1
unfolding is_set
one_at ws p i place h = ap (λ (j : ℕ). bit_at (word_at ws j) (p % 64)) (sym place) ∙ eqb-true _ _ h

-- the same word gives the same bit
pub is_set-same : (xs ys : List ℕ) (p : ℕ) → word_at xs (p / 64) ≡ word_at ys (p / 64) → is_set xs p ≡ is_set ys p
unfolding is_set
is_set-same xs ys p h = ap (λ (w : ℕ). bit_at w (p % 64) == 1) h

-- so does a word with the same bit
pub is_set-bit : (xs ys : List ℕ) (p i : ℕ) → bit_at (word_at xs i) (p % 64) ≡ bit_at (word_at ys i) (p % 64) → p / 64 ≡ i → is_set xs p ≡ is_set ys p
unfolding is_set
is_set-bit xs ys p i h place =
    ap (λ (b : ℕ). b == 1)
    (ap (λ (j : ℕ). bit_at (word_at xs j) (p % 64)) place ∙ h ∙ ap (λ (j : ℕ). bit_at (word_at ys j) (p % 64)) (sym place))

-- a bit of a word that isn't there is set
pub past_is_set : (ws : List ℕ) (p : ℕ) → length ws ≤ p / 64 → is_set ws p ≡ true
past_is_set ws p h = set_at ws p (p / 64) full_word (omega arith) (word_at-past ws (p / 64) h) (bit_at_ones 64 (p % 64) (omega arith))

-- a clear bit is in a word that is there
pub clear_within : (ws : List ℕ) (p : ℕ) → is_set ws p ≡ false → p / 64 < length ws
clear_within ws p h =
    elim (cases_lt (p / 64) (length ws)) [
      | inl lt ↦ lt
      | inr past ↦ absurd (false≢true (sym h ∙ past_is_set ws p past))
    ]

-- ---- full words

pub full_past : (ws : List ℕ) (i : ℕ) → length ws ≤ i → is_full ws i ≡ true
unfolding is_full
full_past ws i h = eq-eqb _ _ (word_at-past ws i h)

pub not_full_within : (ws : List ℕ) (i : ℕ) → is_full ws i ≡ false → i < length ws
not_full_within ws i h =
    elim (cases_lt i (length ws)) [
      | inl lt ↦ lt
      | inr past ↦ absurd (false≢true (sym h ∙ full_past ws i past))
    ]

-- each bit of a full word is set
pub full_is_set : (ws : List ℕ) (p i : ℕ) → p / 64 ≡ i → is_full ws i ≡ true → is_set ws p ≡ true
unfolding is_full
full_is_set ws p i place h = set_at ws p i full_word place (eqb-true _ _ h) (bit_at_ones 64 (p % 64) (omega arith))

-- a word whose bits are all set is full
pub full_from_set : (ws : List ℕ) (i : ℕ) → word_at ws i < 2 ^ 64 → ((p : ℕ) → p / 64 ≡ i → is_set ws p ≡ true) → is_full ws i ≡ true
unfolding is_full
full_from_set ws i fits each =
    let same : word_at ws i ≡ full_word =
    same_from_bits_below 64 (word_at ws i) full_word fits (omega arith)
    (λ k below.
    let place : (64 * i + k) / 64 ≡ i = omega arith in
    let bit : (64 * i + k) % 64 ≡ k = omega arith in
    ap (bit_at (word_at ws i)) (sym bit) ∙ one_at ws (64 * i + k) i place (each (64 * i + k) place) ∙ sym (bit_at_ones 64 k below)) in
    eq-eqb _ _ same

-- ---- what the functions find

pub none_in_word : (ws : List ℕ) (from : ℕ) → from / 64 < length ws → get_or ws (from / 64) 0 < 2 ^ 64 → bit_not w64 (get_or ws (from / 64) 0) / 2 ^ (from % 64) ≡ 0 → AllSetInWord ws from
none_in_word ws from within fits h =
    record {
      each = λ p le place.
          set_at ws p (from / 64) (get_or ws (from / 64) 0) place (word_at-in ws (from / 64) within)
          (one_from_not (get_or ws (from / 64) 0) (p % 64) fits (omega arith) (none_from _ (from % 64) h (p % 64) (omega arith)));
    }

pub none_past : (ws : List ℕ) (from : ℕ) → length ws ≤ from / 64 → AllSetInWord ws from
none_past ws from past = record { each = λ p le place. past_is_set ws p (omega arith) }

least_of : (ws : List ℕ) (from t : ℕ) → from / 64 < length ws → get_or ws (from / 64) 0 < 2 ^ 64 → IsLowestFrom (bit_not w64 (get_or ws (from / 64) 0)) (from % 64) t → IsLeastClear ws from (from + t)
least_of ws from t within fits lowest =
    let inside = lowest.within in
    let bit : (from + t) % 64 ≡ from % 64 + t = omega arith in
    let place : (from + t) / 64 ≡ from / 64 = omega arith in
    let word = word_at-in ws (from / 64) within in
    record {
      start = omega arith;
      clear = clear_at ws (from + t) (from / 64) (get_or ws (from / 64) 0) place word
          (ap (bit_at (get_or ws (from / 64) 0)) bit ∙ zero_from_not (get_or ws (from / 64) 0) (from % 64 + t) fits inside lowest.here);
      set = λ p le lt.
          set_at ws p (from / 64) (get_or ws (from / 64) 0) (omega arith) word
          (one_from_not (get_or ws (from / 64) 0) (p % 64) fits (omega arith) (lowest.before (p % 64) (omega arith) (omega arith)));
    }

pub record FoundInWord (ws : List ℕ) (from t : ℕ) : Type 0 where
  pub within : from % 64 + t < 64
  pub least : IsLeastClear ws from (from + t)

pub least_in_word : (ws : List ℕ) (from : ℕ) → from / 64 < length ws → get_or ws (from / 64) 0 < 2 ^ 64 → (bit_not w64 (get_or ws (from / 64) 0) / 2 ^ (from % 64) ≡ 0 → ⊥) → FoundInWord ws from (trailing_zeros w64 (bit_not w64 (get_or ws (from / 64) 0) / 2 ^ (from % 64)))
least_in_word ws from within fits some =
    let small : bit_not w64 (get_or ws (from / 64) 0) < 2 ^ 64 = omega arith in
    let lowest = lowest_from (bit_not w64 (get_or ws (from / 64) 0)) (from % 64) small some in
    record {
      within = lowest.within;
      least = least_of ws from (trailing_zeros w64 (bit_not w64 (get_or ws (from / 64) 0) / 2 ^ (from % 64))) within fits lowest;
    }

pub record FirstInWord (ws : List ℕ) (i t : ℕ) : Type 0 where
  pub within : t < 64
  pub least : IsLeastClear ws (64 * i) (64 * i + t)

pub first_of_word : (ws : List ℕ) (i : ℕ) → is_full ws i ≡ false → get_or ws i 0 < 2 ^ 64 → FirstInWord ws i (trailing_ones w64 (get_or ws i 0))
unfolding is_full
first_of_word ws i h fits =
    let within = not_full_within ws i h in
    let word = word_at-in ws i within in
    let other : get_or ws i 0 ≡ full_word → ⊥ = λ e. eqb-false _ _ h (word ∙ e) in
    let some : get_or ws i 0 + 1 < 2 ^ 64 = omega arith in
    let ones = bit_at-trailing_ones w64 (get_or ws i 0) some in
    let below = ones.0 in
    let place : (64 * i + trailing_ones w64 (get_or ws i 0)) / 64 ≡ i = omega arith in
    let bit : (64 * i + trailing_ones w64 (get_or ws i 0)) % 64 ≡ trailing_ones w64 (get_or ws i 0) = omega arith in
    record {
      within = below;
      least = record {
        start = omega arith;
        clear = clear_at ws (64 * i + trailing_ones w64 (get_or ws i 0)) i (get_or ws i 0) place word (ap (bit_at (get_or ws i 0)) bit ∙ ones.1);
        set = λ p le lt. set_at ws p i (get_or ws i 0) (omega arith) word (ones.2 (p % 64) (omega arith));
      };
    }

-- ---- words that are cleared

pub spare_set : (count : ℕ) (ws : List ℕ) → ws ≡ replicate (words_for count) 0 → (count % 64 ≡ 0 → ⊥) → IsSetFrom count (set ws (count / 64) (18446744073709551615 * 2 ^ (count % 64) % 2 ^ 64))
spare_set count ws zeros used =
    let long : length ws ≡ words_for count = ap length zeros ∙ length-replicate (words_for count) 0 in
    let within : count / 64 < length ws = omega arith in
    let small : count % 64 < 64 = omega arith in
    let mask = ones_shl 64 (count % 64) (omega arith) in
    let here = word_at-set_same ws (count / 64) (18446744073709551615 * 2 ^ (count % 64) % 2 ^ 64) within ∙ mask in
    let zero = λ (i : ℕ) (ne : i ≡ count / 64 → ⊥) (lt : i < words_for count). word_at-set_other ws (count / 64) i (18446744073709551615 * 2 ^ (count % 64) % 2 ^ 64) ne ∙ ap (λ (xs : List ℕ). word_at xs i) zeros ∙ word_at-replicate (words_for count) i lt in
    record {
      below = λ p lt.
          elim (cases_eq (p / 64) (count / 64)) [
            | inl same ↦ clear_at _ p (count / 64) (2 ^ 64 - 2 ^ (count % 64)) same here (bit_at_mask_below (count % 64) 64 (p % 64) (omega arith))
            | inr other ↦ clear_at _ p (p / 64) 0 (omega arith) (zero (p / 64) other (omega arith)) (bit_at-zero (p % 64))
          ];
      above = λ p le.
          elim (cases_eq (p / 64) (count / 64)) [
            | inl same ↦ set_at _ p (count / 64) (2 ^ 64 - 2 ^ (count % 64)) same here (bit_at_mask_inside (count % 64) 64 (p % 64) (omega arith) (omega arith))
            | inr other ↦ past_is_set _ p (omega (arith, length-set ws (count / 64) (18446744073709551615 * 2 ^ (count % 64) % 2 ^ 64)))
          ];
    }

pub no_spare : (count : ℕ) (ws : List ℕ) → ws ≡ replicate (words_for count) 0 → count % 64 ≡ 0 → IsSetFrom count ws
no_spare count ws zeros whole =
    let long : length ws ≡ words_for count = ap length zeros ∙ length-replicate (words_for count) 0 in
    record {
      below = λ p lt. clear_at ws p (p / 64) 0 (omega arith) (ap (λ (xs : List ℕ). word_at xs (p / 64)) zeros ∙ word_at-replicate (words_for count) (p / 64) (omega arith)) (bit_at-zero (p % 64));
      above = λ p le. past_is_set ws p (omega arith);
    }
