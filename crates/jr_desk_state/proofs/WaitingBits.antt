-- The bits of the clones that are known to wait.
use Rattle.std.proofs.Common.{◌≡◌, ◌+◌, ◌-◌, ◌*◌, ◌/◌, ◌%◌, ◌^◌, ◌<◌, ◌≤◌, ◌⊎◌, ℕ, List, length, get_or, set, replicate, true, false, w64, bit_and, bit_or, refl, sym, ◌∙◌, ap, arith, inl, inr, eq-eqb}
use Rattle.std.specs.Prelude.{◌==◌}
use Rattle.std.specs.Int.{bit_at, bit_not, trailing_zeros}
use Rattle.std.proofs.Math.Nat.{div-le_self}
use Rattle.std.proofs.lemmas.Bool.{cases_lt, cases_eq, eqb-true, ne_eqb}
use Rattle.std.proofs.lemmas.List.{get_or_default, get_or_past, get_or-replicate, get_or-set_same, get_or-set_other, length-replicate}
use Rattle.std.proofs.lemmas.Nat.Bits.{bit_at-zero, bit_at_above, bit_at-trailing_zeros, bit_at_set_other, bit_at_clear_same, bit_at_clear_other}
use Rattle.jr_model.proofs.NumberLemmas.{bit_at-shr, one_from_not}
use Rattle.jr_desk_state.specs.Waitings.{is_marked}

-- where a word has no clear bit from one on, all are set
pub all_set : (w bit : ℕ) → w < 2 ^ 64 → bit_not w64 w / 2 ^ bit ≡ 0 → (k : ℕ) → bit ≤ k → k < 64 → bit_at w k ≡ 1
all_set w bit fits none k from within =
    let e : bit + (k - bit) ≡ k = omega (arith, from) in
    one_from_not w k fits within
    (ap (bit_at (bit_not w64 w)) (sym e) ∙ sym (bit_at-shr (bit_not w64 w) bit (k - bit)) ∙ ap (λ (x : ℕ). bit_at x (k - bit)) none ∙ bit_at-zero (k - bit))

-- and else the lowest of them is within the word, and those before it are set
pub record IsRun (w bit run : ℕ) : Type 0 where
  pub within : bit + run < 64
  pub set : (k : ℕ) → bit ≤ k → k < bit + run → bit_at w k ≡ 1

pub run_to_clear : (w bit : ℕ) → w < 2 ^ 64 → (bit_not w64 w / 2 ^ bit ≡ 0 → ⊥) → IsRun w bit (trailing_zeros w64 (bit_not w64 w / 2 ^ bit))
run_to_clear w bit fits some =
    let no = bit_not w64 w in
    let low : no < 2 ^ 64 = omega arith in
    let small : no / 2 ^ bit < 2 ^ 64 = omega (arith, low, div-le_self no (2 ^ bit)) in
    let positive : 0 < no / 2 ^ bit = omega (arith, some) in
    let run = trailing_zeros w64 (no / 2 ^ bit) in
    let lowest = bit_at-trailing_zeros w64 (no / 2 ^ bit) positive small in
    let here : bit_at no (bit + run) ≡ 1 = sym (bit_at-shr no bit run) ∙ lowest.1 in
    let inside : bit + run < 64 =
    elim (cases_lt (bit + run) 64) [
      | inl h ↦ h
      | inr h ↦ absurd (omega (arith, here, bit_at_above no 64 (bit + run) low h))
    ] in
    record {
      within = inside;
      set = λ k from before.
          let e : bit + (k - bit) ≡ k = omega (arith, from) in
          one_from_not w k fits (omega (arith, before, inside))
          (ap (bit_at no) (sym e) ∙ sym (bit_at-shr no bit (k - bit)) ∙ lowest.2 (k - bit) (omega (arith, from, before)));
    }

-- ---- marks

-- the bit in a word that was read
read_before : (words : List ℕ) (place old c : ℕ) → c / 64 ≡ place → place < length words → old ≡ get_or words place old
    → bit_at (get_or words (c / 64) 0) (c % 64) ≡ bit_at old (c % 64)
read_before words place old c at within read =
    ap (λ (i : ℕ). bit_at (get_or words i 0) (c % 64)) at
    ∙ ap (λ (w : ℕ). bit_at w (c % 64)) (sym (read ∙ get_or_default words place old 0 within))

pub marks_none : (n c : ℕ) → is_marked (replicate n 0) c ≡ false
marks_none n c =
    let zero : get_or (replicate {A = ℕ} n 0) (c / 64) 0 ≡ 0 =
    elim (cases_lt (c / 64) n) [
      | inl within ↦ get_or-replicate n (c / 64) 0 0 within
      | inr past ↦ get_or_past (replicate n 0) (c / 64) 0 (omega (arith, past, length-replicate {A = ℕ} n 0))
    ] in
    ne_eqb _ _ (λ one. absurd (omega (arith, one, ap {B = ℕ} (λ (w : ℕ). bit_at w (c % 64)) zero, bit_at-zero (c % 64))))

-- a word is set there
module _ (words : List ℕ) (place v c : ℕ) where
  kept_apart : (c / 64 ≡ place → ⊥) → is_marked (set words place v) c ≡ is_marked words c
  kept_apart apart = ap (λ (w : ℕ). bit_at w (c % 64) == 1) (get_or-set_other words place (c / 64) v 0 apart)

  read_here : c / 64 ≡ place → place < length words → bit_at (get_or (set words place v) (c / 64) 0) (c % 64) ≡ bit_at v (c % 64)
  read_here same within =
      ap (λ (i : ℕ). bit_at (get_or (set words place v) i 0) (c % 64)) same
      ∙ ap (λ (w : ℕ). bit_at w (c % 64)) (get_or-set_same words place v 0 within)

-- a bit is set in the word that was read
pub marked_more : (words : List ℕ) (clone old c : ℕ) → clone / 64 < length words → old ≡ get_or words (clone / 64) old
    → is_marked (set words (clone / 64) (bit_or old (1 * 2 ^ (clone % 64) % 2 ^ 64))) c ≡ true
    → (c ≡ clone) ⊎ (is_marked words c ≡ true)
marked_more words clone old c within read marked =
    let new = bit_or old (1 * 2 ^ (clone % 64) % 2 ^ 64) in
    elim (cases_eq c clone) [
      | inl same ↦ inl same
      | inr apart ↦
          inr (elim (cases_eq (c / 64) (clone / 64)) [
            | inl place ↦
                let bits : c % 64 ≡ clone % 64 → ⊥ = λ equal. apart (omega (arith, place, equal)) in
                eq-eqb _ _ (read_before words (clone / 64) old c place within read
                ∙ sym (bit_at_set_other w64 old (clone % 64) (omega arith) (c % 64) bits)
                ∙ sym (read_here words (clone / 64) new c place within)
                ∙ eqb-true _ _ marked)
            | inr elsewhere ↦ sym (kept_apart words (clone / 64) new c elsewhere) ∙ marked
          ])
    ]

-- and one is cleared in it
abbrev pub cleared : List ℕ → ℕ → ℕ → List ℕ
cleared words clone old = set words (clone / 64) (bit_and old (bit_not w64 (1 * 2 ^ (clone % 64) % 2 ^ 64)))

pub released_here : (words : List ℕ) (clone old : ℕ) → clone / 64 < length words → is_marked (cleared words clone old) clone ≡ false
released_here words clone old within =
    let new = bit_and old (bit_not w64 (1 * 2 ^ (clone % 64) % 2 ^ 64)) in
    ne_eqb _ _ (λ one. absurd (omega (
      arith,
      one,
      read_here words (clone / 64) new clone refl within,
      bit_at_clear_same w64 old (clone % 64) (omega arith),
    )))

pub past_free : (words : List ℕ) (clone : ℕ) → length words ≤ clone / 64 → is_marked words clone ≡ false
past_free words clone past =
    ne_eqb _ _ (λ one. absurd (omega (
      arith,
      one,
      ap (λ (w : ℕ). bit_at w (clone % 64)) (get_or_past words (clone / 64) 0 past),
      bit_at-zero (clone % 64),
    )))

pub marked_before : (words : List ℕ) (clone old c : ℕ) → clone / 64 < length words → old ≡ get_or words (clone / 64) old
    → is_marked (cleared words clone old) c ≡ true → is_marked words c ≡ true
marked_before words clone old c within read marked =
    let new = bit_and old (bit_not w64 (1 * 2 ^ (clone % 64) % 2 ^ 64)) in
    elim (cases_eq (c / 64) (clone / 64)) [
      | inl place ↦
          elim (cases_eq (c % 64) (clone % 64)) [
            | inl bit ↦
                absurd (omega (
                  arith,
                  eqb-true _ _ marked,
                  read_here words (clone / 64) new c place within,
                  ap (bit_at new) bit,
                  bit_at_clear_same w64 old (clone % 64) (omega arith),
                ))
            | inr apart ↦
                eq-eqb _ _ (read_before words (clone / 64) old c place within read
                ∙ sym (bit_at_clear_other w64 old (clone % 64) (omega arith) (c % 64) (omega arith) apart)
                ∙ sym (read_here words (clone / 64) new c place within)
                ∙ eqb-true _ _ marked)
          ]
      | inr elsewhere ↦ sym (kept_apart words (clone / 64) new c elsewhere) ∙ marked
    ]

-- the clones of a word from one on, as many as its set bits there, are marked
pub run_marked : (words : List ℕ) (place start word run : ℕ) → place < length words → word ≡ get_or words place word → 64 * place ≤ start
    → ((k : ℕ) → start - 64 * place ≤ k → k < start - 64 * place + run → bit_at word k ≡ 1)
    → start - 64 * place + run ≤ 64
    → (c : ℕ) → start ≤ c → c < start + run → is_marked words c ≡ true
run_marked words place start word run within read begun set most c from before =
    let at : c / 64 ≡ place = omega (arith, begun, most, from, before) in
    let bit : c % 64 ≡ c - 64 * place = omega (arith, begun, most, from, before) in
    eq-eqb _ _ (read_before words place word c at within read ∙ ap (bit_at word) bit ∙ set (c - 64 * place) (omega (arith, begun, from)) (omega (arith, begun, before, from)))
