-- What is in slots whose taken ones are kept packed, through a step.
use Rattle.std.proofs.Common.{◌≡◌, ℕ, zero, suc, ◌+◌, ◌-◌, ◌*◌, ◌/◌, ◌%◌, ◌^◌, ◌<◌, ◌≤◌, Bool, false, cond, List, [], ◌∷◌, Option, Some, None, length, set, get_or, bit_and, bit_or, w64, arith, refl, sym, ap, subst, ◌∙◌, ◌⊎◌, inl, inr, eq-eqb}
use Rattle.std.specs.Prelude.{◌==◌, count_ones, slice_get, IsSome, MatchOption}
use Rattle.std.specs.Int.{bit_at, bit_not}
use Rattle.std.specs.Int.Count.{ones_cat, ones-ones}
use Rattle.std.specs.List.{insert, remove}
use Rattle.std.proofs.Math.Nat.{div-eq_of_lt, mod-eq_of_lt, pow-suc, suc-add, zero-add}
use Rattle.std.proofs.Math.Numerals.{add-one, one-add}
use Rattle.std.proofs.Math.Pow.{pow_mono}
use Rattle.std.proofs.lemmas.Bool.{cases_eq, cases_lt, eqb-false, ne_eqb}
use Rattle.std.proofs.lemmas.Option.{slice_get_read}
use Rattle.std.proofs.lemmas.Nat.{and_le_l, or_lt, mod-pow-add, ones_le_self, pow_pos, shr_split}
use Rattle.std.proofs.lemmas.Nat.Bits.{bit_at-lt, bit_at-zero, bit_at_above, bit_at_cat_low, bit_at_set_same, bit_at_set_other, bit_at_clear_same, bit_at_clear_other}
use Rattle.jr_model.proofs.PlaceLemmas.{got_set}
use Rattle.jr_writes.specs.Slots.{IsLastTaken, slot_at}

-- ---- an item of a list, through a step

slice_get-insert_at : {T : Type 0} (xs : List T) (i : ℕ) (y : T) → i ≤ length xs → slice_get (insert xs i y) i ≡ Some y
slice_get-insert_at xs zero y h = refl
slice_get-insert_at [] (suc i) y h = absurd (omega arith)
slice_get-insert_at (x ∷ xs) (suc i) y h = slice_get-insert_at xs i y (omega arith)

slice_get-insert_below : {T : Type 0} (xs : List T) (i : ℕ) (y : T) (k : ℕ) → k < i → i ≤ length xs → slice_get (insert xs i y) k ≡ slice_get xs k
slice_get-insert_below xs zero y k h le = absurd (omega arith)
slice_get-insert_below [] (suc i) y k h le = absurd (omega arith)
slice_get-insert_below (x ∷ xs) (suc i) y zero h le = refl
slice_get-insert_below (x ∷ xs) (suc i) y (suc k) h le = slice_get-insert_below xs i y k (omega arith) (omega arith)

slice_get-insert_above : {T : Type 0} (xs : List T) (i : ℕ) (y : T) (k : ℕ) → i ≤ k → i ≤ length xs → slice_get (insert xs i y) (suc k) ≡ slice_get xs k
slice_get-insert_above xs zero y k h le = refl
slice_get-insert_above [] (suc i) y k h le = absurd (omega arith)
slice_get-insert_above (x ∷ xs) (suc i) y zero h le = absurd (omega arith)
slice_get-insert_above (x ∷ xs) (suc i) y (suc k) h le = slice_get-insert_above xs i y k (omega arith) (omega arith)

slice_get-remove_below : {T : Type 0} (xs : List T) (i k : ℕ) → k < i → slice_get (remove xs i) k ≡ slice_get xs k
slice_get-remove_below xs zero k h = absurd (omega arith)
slice_get-remove_below [] (suc i) k h = refl
slice_get-remove_below (x ∷ xs) (suc i) zero h = refl
slice_get-remove_below (x ∷ xs) (suc i) (suc k) h = slice_get-remove_below xs i k (omega arith)

slice_get-remove_above : {T : Type 0} (xs : List T) (i k : ℕ) → i ≤ k → slice_get (remove xs i) k ≡ slice_get xs (suc k)
slice_get-remove_above [] zero k h = refl
slice_get-remove_above [] (suc i) k h = refl
slice_get-remove_above (x ∷ xs) zero k h = refl
slice_get-remove_above (x ∷ xs) (suc i) zero h = absurd (omega arith)
slice_get-remove_above (x ∷ xs) (suc i) (suc k) h = slice_get-remove_above xs i k (omega arith)

slice_get-set_other : {T : Type 0} (xs : List T) (i : ℕ) (y : T) (k : ℕ) → (k ≡ i → ⊥) → slice_get (set xs i y) k ≡ slice_get xs k
slice_get-set_other [] i y k ne = refl
slice_get-set_other (x ∷ xs) zero y zero ne = absurd (ne refl)
slice_get-set_other (x ∷ xs) zero y (suc k) ne = refl
slice_get-set_other (x ∷ xs) (suc i) y zero ne = refl
slice_get-set_other (x ∷ xs) (suc i) y (suc k) ne = slice_get-set_other xs i y k (λ e. ne (ap suc e))

slice_get-some : {T : Type 0} (xs : List T) (i : ℕ) → i < length xs → IsSome (slice_get xs i)
slice_get-some [] i h = absurd (omega arith)
slice_get-some (x ∷ xs) zero h = refl
slice_get-some (x ∷ xs) (suc i) h = slice_get-some xs i (omega arith)

-- ---- how many bits below a place are set

pub rank : ℕ → ℕ → ℕ
rank w zero = zero
rank w (suc k) = rank w k + bit_at w k

ones_bit : (b : ℕ) → b < 2 → count_ones b ≡ b
ones_bit zero h = omega (arith, ones_le_self 0)
ones_bit (suc zero) h = ones-ones 1
ones_bit (suc (suc b)) h = absurd (omega arith)

pub count_ones-low : (w k : ℕ) → count_ones (w % 2 ^ k) ≡ rank w k
unfolding rank
count_ones-low w zero =
    let none : w % 2 ^ 0 ≡ 0 = omega arith in
    ap count_ones none ∙ omega (arith, ones_le_self 0)
count_ones-low w (suc k) =
    ap (λ (n : ℕ). count_ones (w % 2 ^ n)) (sym (one-add k))
    ∙ ap count_ones (mod-pow-add w 1 k)
    ∙ ones_cat k (bit_at w k) (w % 2 ^ k) (let p = pow_pos k in omega arith)
    ∙ omega (arith, ones_bit (bit_at w k) (bit_at-lt w k), count_ones-low w k)

rank-le : (w j d : ℕ) → rank w j ≤ rank w (d + j)
unfolding rank
rank-le w j zero = subst (λ (n : ℕ). rank w j ≤ rank w n) (sym (zero-add j)) (omega arith)
rank-le w j (suc d) = subst (λ (n : ℕ). rank w j ≤ rank w n) (sym (suc-add d j)) (omega (arith, rank-le w j d))

rank_ordered : (w j k : ℕ) → j ≤ k → rank w j ≤ rank w k
rank_ordered w j k h =
    let e : (k - j) + j ≡ k = omega arith in
    subst (λ (n : ℕ). rank w j ≤ rank w n) e (rank-le w j (k - j))

rank-lt : (w j k : ℕ) → bit_at w j ≡ 1 → j < k → rank w j < rank w k
unfolding rank
rank-lt w j k one h =
    let e : (k - suc j) + suc j ≡ k = omega arith in
    subst (λ (n : ℕ). rank w j < rank w n) e (omega (arith, rank-le w (suc j) (k - suc j)))

pub count_ones-whole : (w : ℕ) → w < 2 ^ 64 → count_ones w ≡ rank w 64
count_ones-whole w fits = ap count_ones (sym (mod-eq_of_lt fits)) ∙ count_ones-low w 64

bit_cases : (w k : ℕ) → (bit_at w k ≡ 0) ⊎ (bit_at w k ≡ 1)
bit_cases w k =
    elim (cases_eq (bit_at w k) 0) [
      | inl e ↦ inl e
      | inr ne ↦ inr (omega (arith, bit_at-lt w k))
    ]

-- a bit that isn't 1
pub clear_bit : (w s : ℕ) → (bit_at w s == 1) ≡ false → bit_at w s ≡ 0
clear_bit w s h =
    let other : bit_at w s ≡ 1 → ⊥ = eqb-false (bit_at w s) 1 h in
    omega (arith, bit_at-lt w s)

-- a bit that is set stands within the word
bit_within : (w s : ℕ) → w < 2 ^ 64 → bit_at w s ≡ 1 → s < 64
bit_within w s fits one =
    elim (cases_lt s 64) [
      | inl h ↦ h
      | inr h ↦ absurd (omega (arith, one, bit_at_above w 64 s fits h))
    ]

module _ {T : Type 0} (w : ℕ) (items : List T) where
  pub free_slot : (s : ℕ) → bit_at w s ≡ 0 → slot_at w items s ≡ None
  unfolding slot_at
  free_slot s none =
      ap (λ (b : Bool). cond b (slice_get items (count_ones (w % 2 ^ s))) None)
      (ne_eqb (bit_at w s) 1 (λ one. absurd (omega (arith, none, one))))

  pub taken_slot : (s : ℕ) → bit_at w s ≡ 1 → slot_at w items s ≡ slice_get items (rank w s)
  unfolding slot_at
  taken_slot s one =
      ap (λ (b : Bool). cond b (slice_get items (count_ones (w % 2 ^ s))) None) (eq-eqb (bit_at w s) 1 one)
      ∙ ap (slice_get items) (count_ones-low w s)

  -- nothing is taken out of a free slot
  pub none_out : (s : ℕ) → slot_at w items s ≡ None → (k : ℕ) → slot_at w items k ≡ cond (k == s) None (slot_at w items k)
  none_out s none k =
      elim (cases_eq k s) [
        | inl same ↦ ap (slot_at w items) same ∙ none ∙ sym (ap (λ (b : Bool). cond b None (slot_at w items k)) (eq-eqb k s same))
        | inr other ↦ sym (ap (λ (b : Bool). cond b None (slot_at w items k)) (ne_eqb k s other))
      ]

  module _ (fits : w < 2 ^ 64) (counted : count_ones w ≡ length items) where
    -- a taken slot's item is there
    pub rank_within : (s : ℕ) → bit_at w s ≡ 1 → count_ones (w % 2 ^ s) < length items
    rank_within s one =
        let whole = count_ones-whole w fits in
        let low = count_ones-low w s in
        omega (arith, rank-lt w s 64 one (bit_within w s fits one))

    pub rank_at_most : (s : ℕ) → s ≤ 64 → count_ones (w % 2 ^ s) ≤ length items
    rank_at_most s h =
        let whole = count_ones-whole w fits in
        let low = count_ones-low w s in
        let e : (64 - s) + s ≡ 64 = omega arith in
        omega (arith, subst (λ (n : ℕ). rank w s ≤ rank w n) e (rank-le w s (64 - s)))

    -- the item at its rank is what is in a taken slot
    pub read_slot : (s r : ℕ) (x : T) → bit_at w s ≡ 1 → r ≡ count_ones (w % 2 ^ s) → x ≡ get_or items r x → Some x ≡ slot_at w items s
    read_slot s r x one at read =
        sym
        (taken_slot s one
        ∙ slice_get_read items (length items) (rank w s) x refl (omega (arith, rank_within s one, count_ones-low w s))
        (read ∙ ap (λ (n : ℕ). get_or items n x) (at ∙ count_ones-low w s)))

    slot_some : (s : ℕ) → bit_at w s ≡ 1 → IsSome (slot_at w items s)
    slot_some s one =
        subst (λ (o : Option T). IsSome o) (sym (taken_slot s one))
        (slice_get-some items (rank w s) (omega (arith, rank_within s one, count_ones-low w s)))

    -- a free slot's bit is clear
    pub clear_from_none : (s : ℕ) → slot_at w items s ≡ None → bit_at w s ≡ 0
    clear_from_none s none =
        elim (bit_cases w s) [
          | inl e ↦ e
          | inr one ↦ absurd (cc (subst (λ (o : Option T). IsSome o) none (slot_some s one)))
        ]

-- ---- one slot more or less

module _ (small large s : ℕ) (clear : bit_at small s ≡ 0) (here : bit_at large s ≡ 1) (others : (k : ℕ) → (k ≡ s → ⊥) → bit_at large k ≡ bit_at small k) where
  rank_upto : (k : ℕ) → k ≤ s → rank large k ≡ rank small k
  unfolding rank
  rank_upto zero h = refl
  rank_upto (suc k) h =
      let rest = rank_upto k (omega arith) in
      let bit = others k (λ e. absurd (omega arith)) in
      λ i. rest i + bit i

  rank_past : (k : ℕ) → s < k → rank large k ≡ rank small k + 1
  unfolding rank
  rank_past zero h = absurd (omega arith)
  rank_past (suc k) h =
      elim (cases_eq k s) [
        | inl same ↦
            let rest = rank_upto k (omega arith) in
            let one : bit_at large k ≡ 1 = ap (bit_at large) same ∙ here in
            let none : bit_at small k ≡ 0 = ap (bit_at small) same ∙ clear in
            omega arith
        | inr other ↦
            let rest = rank_past k (omega arith) in
            let bit = others k other in
            omega arith
      ]

  pub counted_more : small < 2 ^ 64 → large < 2 ^ 64 → s < 64 → count_ones large ≡ count_ones small + 1
  counted_more fits more within =
      omega (arith, count_ones-whole small fits, count_ones-whole large more, rank_past 64 within)

  module _ {T : Type 0} (items : List T) where
    pub slots_inserted : (v : T) → count_ones (small % 2 ^ s) ≤ length items → (k : ℕ) → slot_at large (insert items (count_ones (small % 2 ^ s)) v) k ≡ cond (k == s) (Some v) (slot_at small items k)
    slots_inserted v within k =
        ap (λ (r : ℕ). slot_at large (insert items r v) k) (count_ones-low small s) ∙ by (cases_eq k s)
      where
        fit : rank small s ≤ length items
        fit = omega (arith, within, count_ones-low small s)

        past : bit_at small k ≡ 1 → (k ≡ s → ⊥) → (k < s) ⊎ (s ≤ k) → slot_at large (insert items (rank small s) v) k ≡ slot_at small items k
        past one other (inl h) =
            taken_slot large (insert items (rank small s) v) k (others k other ∙ one)
            ∙ ap (slice_get (insert items (rank small s) v)) (rank_upto k (omega arith))
            ∙ slice_get-insert_below items (rank small s) v (rank small k) (rank-lt small k s one h) fit
            ∙ sym (taken_slot small items k one)
        past one other (inr h) =
            let lt : s < k = omega arith in
            taken_slot large (insert items (rank small s) v) k (others k other ∙ one)
            ∙ ap (slice_get (insert items (rank small s) v)) (rank_past k lt ∙ add-one (rank small k))
            ∙ slice_get-insert_above items (rank small s) v (rank small k) (rank_ordered small s k (omega arith)) fit
            ∙ sym (taken_slot small items k one)

        by : (k ≡ s) ⊎ (k ≡ s → ⊥) → slot_at large (insert items (rank small s) v) k ≡ cond (k == s) (Some v) (slot_at small items k)
        by (inl same) =
            ap (slot_at large (insert items (rank small s) v)) same
            ∙ taken_slot large (insert items (rank small s) v) s here
            ∙ ap (slice_get (insert items (rank small s) v)) (rank_upto s (omega arith))
            ∙ slice_get-insert_at items (rank small s) v fit
            ∙ sym (ap (λ (b : Bool). cond b (Some v) (slot_at small items k)) (eq-eqb k s same))
        by (inr other) =
            elim (bit_cases small k) [
              | inl none ↦ free_slot large (insert items (rank small s) v) k (others k other ∙ none) ∙ sym (free_slot small items k none)
              | inr one ↦ past one other (cases_lt k s)
            ]
            ∙ sym (ap (λ (b : Bool). cond b (Some v) (slot_at small items k)) (ne_eqb k s other))

    pub slots_removed : (k : ℕ) → slot_at small (remove items (count_ones (large % 2 ^ s))) k ≡ cond (k == s) None (slot_at large items k)
    slots_removed k =
        ap (λ (r : ℕ). slot_at small (remove items r) k) (count_ones-low large s ∙ rank_upto s (omega arith)) ∙ by (cases_eq k s)
      where
        past : bit_at small k ≡ 1 → (k ≡ s → ⊥) → (k < s) ⊎ (s ≤ k) → slot_at small (remove items (rank small s)) k ≡ slot_at large items k
        past one other (inl h) =
            taken_slot small (remove items (rank small s)) k one
            ∙ slice_get-remove_below items (rank small s) (rank small k) (rank-lt small k s one h)
            ∙ sym (ap (slice_get items) (rank_upto k (omega arith)))
            ∙ sym (taken_slot large items k (others k other ∙ one))
        past one other (inr h) =
            let lt : s < k = omega arith in
            taken_slot small (remove items (rank small s)) k one
            ∙ slice_get-remove_above items (rank small s) (rank small k) (rank_ordered small s k (omega arith))
            ∙ sym (ap (slice_get items) (rank_past k lt ∙ add-one (rank small k)))
            ∙ sym (taken_slot large items k (others k other ∙ one))

        by : (k ≡ s) ⊎ (k ≡ s → ⊥) → slot_at small (remove items (rank small s)) k ≡ cond (k == s) None (slot_at large items k)
        by (inl same) =
            ap (slot_at small (remove items (rank small s))) same
            ∙ free_slot small (remove items (rank small s)) s clear
            ∙ sym (ap (λ (b : Bool). cond b None (slot_at large items k)) (eq-eqb k s same))
        by (inr other) =
            elim (bit_cases small k) [
              | inl none ↦ free_slot small (remove items (rank small s)) k none ∙ sym (free_slot large items k (others k other ∙ none))
              | inr one ↦ past one other (cases_lt k s)
            ]
            ∙ sym (ap (λ (b : Bool). cond b None (slot_at large items k)) (ne_eqb k s other))

-- ---- another value in a taken slot

pub slots_set : {T : Type 0} (w s : ℕ) (items : List T) (v : T) → bit_at w s ≡ 1 → count_ones (w % 2 ^ s) < length items → (k : ℕ) → slot_at w (set items (count_ones (w % 2 ^ s)) v) k ≡ cond (k == s) (Some v) (slot_at w items k)
slots_set w s items v one within k =
    ap (λ (r : ℕ). slot_at w (set items r v) k) (count_ones-low w s) ∙ by (cases_eq k s)
  where
    apart : bit_at w k ≡ 1 → (k ≡ s → ⊥) → (k < s) ⊎ (s ≤ k) → rank w k ≡ rank w s → ⊥
    apart here other (inl h) same = omega (arith, rank-lt w k s here h)
    apart here other (inr h) same = omega (arith, rank-lt w s k one (omega arith))

    by : (k ≡ s) ⊎ (k ≡ s → ⊥) → slot_at w (set items (rank w s) v) k ≡ cond (k == s) (Some v) (slot_at w items k)
    by (inl same) =
        ap (slot_at w (set items (rank w s) v)) same
        ∙ taken_slot w (set items (rank w s) v) s one
        ∙ got_set items (rank w s) v (omega (arith, within, count_ones-low w s))
        ∙ sym (ap (λ (b : Bool). cond b (Some v) (slot_at w items k)) (eq-eqb k s same))
    by (inr other) =
        elim (bit_cases w k) [
          | inl none ↦ free_slot w (set items (rank w s) v) k none ∙ sym (free_slot w items k none)
          | inr here ↦
              taken_slot w (set items (rank w s) v) k here
              ∙ slice_get-set_other items (rank w s) v (rank w k) (apart here other (cases_lt k s))
              ∙ sym (taken_slot w items k here)
        ]
        ∙ sym (ap (λ (b : Bool). cond b (Some v) (slot_at w items k)) (ne_eqb k s other))

-- ---- the last taken slot

bit_at-low : (w end k : ℕ) → k < end → bit_at (w % 2 ^ end) k ≡ bit_at w k
bit_at-low w end k h =
    sym (bit_at_cat_low (w / 2 ^ end) end (w % 2 ^ end) k h) ∙ ap (λ (n : ℕ). bit_at n k) (shr_split w end)

module _ {T : Type 0} (w end : ℕ) (items : List T) (fits : w < 2 ^ 64) (counted : count_ones w ≡ length items) where
  pub last_of : (r : Option ℕ) → MatchOption r (w % 2 ^ end ≡ 0) (λ b. w % 2 ^ end / 2 ^ b ≡ 1) → IsLastTaken (slot_at w items) end r
  last_of None none = λ k h. free_slot w items k (sym (bit_at-low w end k h) ∙ ap (λ (n : ℕ). bit_at n k) none ∙ bit_at-zero k)
  last_of (Some b) top = (within, slot_some w items fits counted b here, above)
    where
      within : b < end
      within =
          elim (cases_lt b end) [
            | inl h ↦ h
            | inr h ↦
                let small : w % 2 ^ end < 2 ^ b = let p = pow_pos end in let le : 2 ^ end ≤ 2 ^ b = pow_mono h in omega arith in
                absurd (omega (arith, top, div-eq_of_lt small))
          ]

      here : bit_at w b ≡ 1
      here = sym (bit_at-low w end b within) ∙ ap (λ (n : ℕ). n % 2) top

      below : w % 2 ^ end < 2 ^ suc b
      below =
          let split = rw top at (shr_split (w % 2 ^ end) b) in
          let positive = pow_pos b in
          omega (arith, split, pow-suc 2 b)

      above : (k : ℕ) → b < k → k < end → slot_at w items k ≡ None
      above k h lt = free_slot w items k (sym (bit_at-low w end k lt) ∙ bit_at_above (w % 2 ^ end) (suc b) k below (omega arith))

-- ---- a bit more or less

-- the word with a bit, as the code has it
abbrev pub with_bit : ℕ → ℕ → ℕ
with_bit w s = bit_or w (1 * 2 ^ s % 2 ^ 64)

-- and without it
abbrev pub without_bit : ℕ → ℕ → ℕ
without_bit w s = bit_and w (bit_not w64 (1 * 2 ^ s % 2 ^ 64))

module _ (w s : ℕ) (fits : w < 2 ^ 64) (within : s < 64) where
  pub with_fits : with_bit w s < 2 ^ 64
  with_fits = or_lt 64 w (1 * 2 ^ s % 2 ^ 64) fits (omega arith)

  pub without_fits : without_bit w s < 2 ^ 64
  without_fits = omega (arith, and_le_l w (bit_not w64 (1 * 2 ^ s % 2 ^ 64)))

  without_other : (k : ℕ) → (k ≡ s → ⊥) → bit_at w k ≡ bit_at (without_bit w s) k
  without_other k other =
      elim (cases_lt k 64) [
        | inl h ↦ sym (bit_at_clear_other w64 w s within k h other)
        | inr h ↦ bit_at_above w 64 k fits h ∙ sym (bit_at_above (without_bit w s) 64 k without_fits h)
      ]

  module _ {T : Type 0} (items : List T) (counted : count_ones w ≡ length items) where
    pub slots_with : (v : T) → slot_at w items s ≡ None → (k : ℕ) → slot_at (with_bit w s) (insert items (count_ones (w % 2 ^ s)) v) k ≡ cond (k == s) (Some v) (slot_at w items k)
    slots_with v free =
        slots_inserted w (with_bit w s) s (clear_from_none w items fits counted s free) (bit_at_set_same w64 w s within) (bit_at_set_other w64 w s within) items v
        (rank_at_most w items fits counted s (omega arith))

    pub counted_with : slot_at w items s ≡ None → count_ones (with_bit w s) ≡ length items + 1
    counted_with free =
        counted_more w (with_bit w s) s (clear_from_none w items fits counted s free) (bit_at_set_same w64 w s within) (bit_at_set_other w64 w s within) fits with_fits within
        ∙ ap (λ (n : ℕ). n + 1) counted

    pub slots_without : bit_at w s ≡ 1 → (k : ℕ) → slot_at (without_bit w s) (remove items (count_ones (w % 2 ^ s))) k ≡ cond (k == s) None (slot_at w items k)
    slots_without one = slots_removed (without_bit w s) w s (bit_at_clear_same w64 w s within) one without_other items

    pub counted_without : bit_at w s ≡ 1 → count_ones (without_bit w s) + 1 ≡ length items
    counted_without one =
        sym (counted_more (without_bit w s) w s (bit_at_clear_same w64 w s within) one without_other without_fits fits within) ∙ counted
