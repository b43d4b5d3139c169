-- What marking words does to their bits and to which of them are full.
use Rattle.std.proofs.Common.{◌≡◌, ℕ, ◌+◌, ◌-◌, ◌*◌, ◌/◌, ◌%◌, ◌^◌, ◌<◌, ◌≤◌, ◌⊎◌, min, max, Bool, true, false, List, Vec, Global, length, get_or, set, bit_and, bit_or, refl, sym, ap, ap₂, ◌∙◌, inl, inr, arith, eq-eqb}
use Rattle.std.specs.Int.{bit_at}
use Rattle.std.specs.Vec.{with_items}
use Rattle.std.proofs.lemmas.Bool.{cases_lt, cases_eq, cases_Bool, ne_eqb, false≢true}
use Rattle.std.proofs.lemmas.List.{with_items_is}
use Rattle.std.proofs.lemmas.Nat.Bits.{bit_at_and, bit_at_or, bit_at-lt, bit_at_ones, bit_at_ones_above, bit_at_mask_inside, bit_at_mask_below, ones_shl, ones_shr}
use Rattle.jr_map.specs.Words.{full_word, word_at, is_full, is_set, Adds, IsSetFrom, Summarizes}
use Rattle.jr_map.specs.Levels.{words_for}
use Rattle.jr_map.proofs.WordFacts.{word_at-in, word_at-past, word_at-set_same, word_at-set_other, set_at, is_set-same, is_set-bit, full_past, full_is_set, full_from_set}

-- ---- a mask

-- `MAX << low` and `MAX >> 64 - high`
mask_bit : (low high k : ℕ) → low ≤ 64 → high ≤ 64 → bit_at (bit_and (18446744073709551615 * 2 ^ low % 2 ^ 64) (18446744073709551615 / 2 ^ (64 - high))) k ≡ min (bit_at (2 ^ 64 - 2 ^ low) k) (bit_at (2 ^ high - 1) k)
mask_bit low high k l h =
    let e : 64 - (64 - high) ≡ high = omega arith in
    let low_ones = ones_shl 64 low l in
    let high_ones = ones_shr 64 (64 - high) (omega arith) ∙ ap (λ (n : ℕ). 2 ^ n - 1) e in
    bit_at_and _ _ k ∙ ap₂ (λ (a b : ℕ). min (bit_at a k) (bit_at b k)) low_ones high_ones

pub mask_inside : (low high k : ℕ) → high ≤ 64 → low ≤ k → k < high → bit_at (bit_and (18446744073709551615 * 2 ^ low % 2 ^ 64) (18446744073709551615 / 2 ^ (64 - high))) k ≡ 1
mask_inside low high k h le lt =
    omega (arith, mask_bit low high k (omega arith) h, bit_at_mask_inside low 64 k le (omega arith), bit_at_ones high k lt)

pub mask_below : (low high k : ℕ) → low ≤ 64 → high ≤ 64 → k < low → bit_at (bit_and (18446744073709551615 * 2 ^ low % 2 ^ 64) (18446744073709551615 / 2 ^ (64 - high))) k ≡ 0
mask_below low high k l h lt =
    omega (arith, mask_bit low high k l h, bit_at_mask_below low 64 k lt)

pub mask_above : (low high k : ℕ) → low ≤ 64 → high ≤ 64 → high ≤ k → bit_at (bit_and (18446744073709551615 * 2 ^ low % 2 ^ 64) (18446744073709551615 / 2 ^ (64 - high))) k ≡ 0
mask_above low high k l h le =
    omega (arith, mask_bit low high k l h, bit_at_ones_above high k le)

-- ---- bits that are added

pub Adds-none : (holds : List ℕ → ℕ → Bool) (ws : List ℕ) (start end : ℕ) → end ≤ start → Adds holds ws ws start end
Adds-none holds ws start end none =
    record {
      inside = λ p le lt. absurd (omega arith);
      below = λ p lt. refl;
      above = λ p le. refl;
    }

-- one range, and then one that goes on where it ends or before
pub Adds-join : (holds : List ℕ → ℕ → Bool) (xs ys zs : List ℕ) (a b c d : ℕ) → Adds holds xs ys a b → Adds holds ys zs c d → a ≤ c → c ≤ max a b → b ≤ d → Adds holds xs zs a d
Adds-join holds xs ys zs a b c d first second le gap end =
    record {
      inside = λ p from to.
          elim (cases_lt p c) [
            | inl lt ↦ second.below p lt ∙ first.inside p from (omega arith)
            | inr ge ↦ second.inside p ge to
          ];
      below = λ p lt. second.below p (omega arith) ∙ first.below p lt;
      above = λ p ge. second.above p ge ∙ first.above p (omega arith);
    }

-- a bit that is clear in the mask
bit_kept : (ws new : List ℕ) (p i w m : ℕ) → p / 64 ≡ i → word_at ws i ≡ w → word_at new i ≡ bit_or w m → bit_at m (p % 64) ≡ 0 → is_set new p ≡ is_set ws p
bit_kept ws new p i w m place old now zero =
    let kept : bit_at (bit_or w m) (p % 64) ≡ bit_at w (p % 64) = omega (arith, bit_at_or w m (p % 64), zero) in
    is_set-bit new ws p i (ap (λ (v : ℕ). bit_at v (p % 64)) now ∙ kept ∙ ap (λ (v : ℕ). bit_at v (p % 64)) (sym old)) place

-- a word with a mask
pub Adds-word : (ws : List ℕ) (i m low high : ℕ) → i < length ws → low ≤ 64 → high ≤ 64 → ((k : ℕ) → low ≤ k → k < high → bit_at m k ≡ 1) → ((k : ℕ) → k < low → bit_at m k ≡ 0) → ((k : ℕ) → high ≤ k → bit_at m k ≡ 0) → Adds is_set ws (set ws i (bit_or (get_or ws i 0) m)) (64 * i + low) (64 * i + high)
Adds-word ws i m low high within l h inside below above =
    let here = word_at-set_same ws i (bit_or (get_or ws i 0) m) within in
    let word = word_at-in ws i within in
    let other = λ (p : ℕ) (ne : p / 64 ≡ i → ⊥). is_set-same (set ws i (bit_or (get_or ws i 0) m)) ws p (word_at-set_other ws i (p / 64) (bit_or (get_or ws i 0) m) ne) in
    let kept = λ (p : ℕ) (place : p / 64 ≡ i) (zero : bit_at m (p % 64) ≡ 0).
    bit_kept ws (set ws i (bit_or (get_or ws i 0) m)) p i (get_or ws i 0) m place word here zero in
    record {
      inside = λ p from to.
          set_at _ p i (bit_or (get_or ws i 0) m) (omega arith) here
          (omega (arith, bit_at_or (get_or ws i 0) m (p % 64), inside (p % 64) (omega arith) (omega arith), bit_at-lt (get_or ws i 0) (p % 64)));
      below = λ p lt.
          elim (cases_eq (p / 64) i) [
            | inl same ↦ kept p same (below (p % 64) (omega arith))
            | inr ne ↦ other p ne
          ];
      above = λ p ge.
          elim (cases_eq (p / 64) i) [
            | inl same ↦ kept p same (above (p % 64) (omega arith))
            | inr ne ↦ other p ne
          ];
    }

-- ---- words that are full

pub fits_at : (ws : List ℕ) → ((k : ℕ) → get_or ws k 0 < 2 ^ 64) → (i : ℕ) → word_at ws i < 2 ^ 64
fits_at ws fits i =
    elim (cases_lt i (length ws)) [
      | inl lt ↦ omega (arith, word_at-in ws i lt, fits i)
      | inr past ↦ omega (arith, word_at-past ws i past)
    ]

-- a word whose bits are set where they were is full where it was
more_full : (old new : List ℕ) (i : ℕ) → word_at new i < 2 ^ 64 → ((p : ℕ) → p / 64 ≡ i → is_set old p ≡ true → is_set new p ≡ true) → is_full old i ≡ true → is_full new i ≡ true
more_full old new i fits more full =
    full_from_set new i fits (λ p place. more p place (full_is_set old p i place full))

same_full : (old new : List ℕ) (i : ℕ) → word_at old i < 2 ^ 64 → word_at new i < 2 ^ 64 → ((p : ℕ) → p / 64 ≡ i → is_set new p ≡ is_set old p) → is_full new i ≡ is_full old i
same_full old new i old_fits new_fits same =
    elim (cases_Bool (is_full old i)) [
      | inl full ↦ more_full old new i new_fits (λ p place h. same p place ∙ h) full ∙ sym full
      | inr not_full ↦
          elim (cases_Bool (is_full new i)) [
            | inl full ↦ absurd (false≢true (sym not_full ∙ more_full new old i old_fits (λ p place h. sym (same p place) ∙ h) full))
            | inr now ↦ now ∙ sym not_full
          ]
    ]

-- as a test reads it
pub full_read : (ws : List ℕ) (i : ℕ) → i < length ws → get_or ws i 0 ≡ full_word → is_full ws i ≡ true
unfolding is_full
full_read ws i within h = eq-eqb _ _ (word_at-in ws i within ∙ h)

pub not_full_read : (ws : List ℕ) (i : ℕ) → i < length ws → (get_or ws i 0 ≡ full_word → ⊥) → is_full ws i ≡ false
unfolding is_full
not_full_read ws i within h = ne_eqb _ _ (λ e. h (sym (word_at-in ws i within) ∙ e))

-- bits that are set stay set
pub grown : (old new : List ℕ) (start end p : ℕ) → Adds is_set old new start end → is_set old p ≡ true → is_set new p ≡ true
grown old new start end p adds h =
    elim (cases_lt p start) [
      | inl lt ↦ adds.below p lt ∙ h
      | inr ge ↦
          elim (cases_lt p end) [
            | inl lt ↦ adds.inside p ge lt
            | inr past ↦ adds.above p past ∙ h
          ]
    ]

-- a word that isn't full now wasn't before
stays_not_full : (old new : List ℕ) (i : ℕ) → word_at new i < 2 ^ 64 → ((p : ℕ) → p / 64 ≡ i → is_set old p ≡ true → is_set new p ≡ true) → is_full new i ≡ false → is_full new i ≡ is_full old i
stays_not_full old new i fits more h =
    elim (cases_Bool (is_full old i)) [
      | inl full ↦ absurd (false≢true (sym h ∙ more_full old new i fits more full))
      | inr not_full ↦ h ∙ sym not_full
    ]

-- where the full words begin, at the first word that has a bit of the range
abbrev pub Begins : List ℕ → ℕ → ℕ → Type 0
Begins new first from = ((is_full new first ≡ true) × (from ≡ first)) ⊎ ((is_full new first ≡ false) × (from ≡ first + 1))

-- and where they end, at the last such word
abbrev pub Ends : List ℕ → ℕ → ℕ → Type 0
Ends new last to = ((is_full new last ≡ true) × (to ≡ last + 1)) ⊎ ((is_full new last ≡ false) × (to ≡ last))

ends_inside : (new : List ℕ) (first last from to i : ℕ) → Begins new first from → Ends new last to → from ≤ i → i < to → ((j : ℕ) → first < j → j < last → is_full new j ≡ true) → is_full new i ≡ true
ends_inside new first last from to i front back ge lt between =
    elim (cases_eq i first) [
      | inl at ↦ elim front [ inl full ↦ ap (is_full new) at ∙ full.0 | inr other ↦ absurd (omega (arith, other.1)) ]
      | inr after ↦
          elim (cases_eq i last) [
            | inl at ↦ elim back [ inl full ↦ ap (is_full new) at ∙ full.0 | inr other ↦ absurd (omega (arith, other.1)) ]
            | inr before ↦
                let more : first < i = elim front [ inl full ↦ omega (arith, full.1) | inr other ↦ omega (arith, other.1) ] in
                let less : i < last = elim back [ inl full ↦ omega (arith, full.1) | inr other ↦ omega (arith, other.1) ] in
                between i more less
          ]
    ]

ends_below : (old new : List ℕ) (first from i : ℕ) → Begins new first from → i < from → (i < first → is_full new i ≡ is_full old i) → ((j : ℕ) → is_full new j ≡ false → is_full new j ≡ is_full old j) → is_full new i ≡ is_full old i
ends_below old new first from i front lt outside stays =
    elim front [
      | inl full ↦ outside (omega (arith, full.1))
      | inr other ↦
          elim (cases_eq i first) [
            | inl at ↦ stays i (ap (is_full new) at ∙ other.0)
            | inr before ↦ outside (omega (arith, other.1))
          ]
    ]

ends_above : (old new : List ℕ) (last to i : ℕ) → Ends new last to → to ≤ i → (last < i → is_full new i ≡ is_full old i) → ((j : ℕ) → is_full new j ≡ false → is_full new j ≡ is_full old j) → is_full new i ≡ is_full old i
ends_above old new last to i back ge outside stays =
    elim back [
      | inl full ↦ outside (omega (arith, full.1))
      | inr other ↦
          elim (cases_eq i last) [
            | inl at ↦ stays i (ap (is_full new) at ∙ other.0)
            | inr after ↦ outside (omega (arith, other.1))
          ]
    ]

-- the words from the first to the last that has a bit of the range, these two where they are full
pub full_words : (old new : List ℕ) (start end from to : ℕ) → ((k : ℕ) → get_or old k 0 < 2 ^ 64) → ((k : ℕ) → get_or new k 0 < 2 ^ 64) → start < end → Adds is_set old new start end → Begins new (start / 64) from → Ends new ((end - 1) / 64) to → Adds is_full old new from to
full_words old new start end from to old_fits new_fits some adds first last =
    let outside = λ (i : ℕ) (out : (i < start / 64) ⊎ ((end - 1) / 64 < i)).
    same_full old new i (fits_at old old_fits i) (fits_at new new_fits i)
    (λ p place. elim out [ inl lt ↦ adds.below p (omega arith) | inr gt ↦ adds.above p (omega arith) ]) in
    let grows = λ (p : ℕ) (h : is_set old p ≡ true).
    grown old new start end p adds h in
    let stays = λ (i : ℕ) (h : is_full new i ≡ false).
    stays_not_full old new i (fits_at new new_fits i) (λ p place. grows p) h in
    let between = λ (i : ℕ) (gt : start / 64 < i) (lt : i < (end - 1) / 64).
    full_from_set new i (fits_at new new_fits i) (λ p place. adds.inside p (omega arith) (omega arith)) in
    record {
      inside = λ i ge lt. ends_inside new (start / 64) ((end - 1) / 64) from to i first last ge lt between;
      below = λ i lt. ends_below old new (start / 64) from i first lt (λ l. outside i (inl l)) stays;
      above = λ i ge. ends_above old new ((end - 1) / 64) to i last ge (λ l. outside i (inr l)) stays;
    }

-- ---- a level and the one below

-- levels that are clear
pub Summarizes-clear : (count : ℕ) (lower upper : List ℕ) → length lower ≡ words_for count → IsSetFrom count lower → IsSetFrom (length lower) upper → Summarizes lower upper
Summarizes-clear count lower upper long low up =
    record {
      each = λ i.
          elim (cases_lt i (length lower)) [
            | inl lt ↦
                elim (cases_Bool (is_full lower i)) [
                  | inl full ↦ absurd (false≢true (sym (low.below (64 * i) (omega arith)) ∙ full_is_set lower (64 * i) i (omega arith) full))
                  | inr not_full ↦ up.below i lt ∙ sym not_full
                ]
            | inr past ↦ up.above i past ∙ sym (full_past lower i past)
          ];
    }

-- where they are written back into vectors
pub Summarizes-written : (count : ℕ) (v w : Vec ℕ Global) (lower upper : List ℕ) → length lower ≡ v.len → length upper ≡ w.len → length lower ≡ words_for count → IsSetFrom count lower → IsSetFrom (length lower) upper → Summarizes (with_items v lower).items (with_items w upper).items
Summarizes-written count v w lower upper low_len up_len long low up =
    rw (with_items_is v lower low_len, with_items_is w upper up_len) (Summarizes-clear count lower upper long low up)
