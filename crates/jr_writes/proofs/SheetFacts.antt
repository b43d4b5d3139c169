-- What stands on a sheet, through a step.
use Rattle.std.proofs.Common.{◌≡◌, ℕ, ◌+◌, ◌*◌, ◌/◌, ◌%◌, ◌^◌, ◌<◌, ◌≤◌, Result, Ok, Err, length, get_or, set, length-set, Bool, cond, Option, Some, None, arith, refl, sym, ap, subst, ◌∙◌, ◌⊎◌, inl, inr, eq-eqb}
use Rattle.std.specs.Prelude.{◌==◌, count_ones, IsSome}
use Rattle.std.specs.Int.{bit_at}
use Rattle.std.specs.Option.{option_map}
use Rattle.std.specs.Result.{OnErr, OnOk}
use Rattle.std.specs.Vec.{with_item}
use Rattle.std.proofs.lemmas.Bool.{cases_eq, cases_lt, ne_eqb}
use Rattle.std.proofs.lemmas.Nat.Bits.{bit_at-zero, same_from_bits_below}
use Rattle.std.proofs.lemmas.Option.{none-some, same_Some}
use Rattle.jr_writes.specs.declared.packed.Packed.{Packed}
use Rattle.jr_writes.specs.Sheets.{HasNoEmptyRow, IsLastInRow, in_row, packed_at, sheet_at}
use Rattle.jr_writes.specs.Slots.{IsLastTaken, slot_at}
use Rattle.jr_writes.proofs.SlotFacts.{clear_from_none, free_slot, rank_within, read_slot, slots_set}

module _ {V : Type 0} (rows new : Packed (Packed V)) (place : ℕ) (o : Option (Packed V)) (w : Option V)
    (row_step : (k : ℕ) → packed_at new k ≡ cond (k == place / 64) o (packed_at rows k))
    (slot_step : (k : ℕ) → in_row o k ≡ cond (k == place % 64) w (in_row (packed_at rows (place / 64)) k)) where
  -- one row becomes another, in one slot
  pub sheet_step : (q : ℕ) → sheet_at new q ≡ cond (q == place) w (sheet_at rows q)
  unfolding sheet_at
  sheet_step q = by (cases_eq (q / 64) (place / 64))
    where
      by : (q / 64 ≡ place / 64) ⊎ (q / 64 ≡ place / 64 → ⊥) → in_row (packed_at new (q / 64)) (q % 64) ≡ cond (q == place) w (in_row (packed_at rows (q / 64)) (q % 64))
      by (inl same) =
          ap (λ (r : Option (Packed V)). in_row r (q % 64))
          (row_step (q / 64) ∙ ap (λ (b : Bool). cond b o (packed_at rows (q / 64))) (eq-eqb (q / 64) (place / 64) same))
          ∙ slot_step (q % 64)
          ∙ ap (λ (r : ℕ). cond (q % 64 == place % 64) w (in_row (packed_at rows r) (q % 64))) (sym same)
          ∙ ap (λ (b : Bool). cond b w (in_row (packed_at rows (q / 64)) (q % 64)))
          (elim (cases_eq (q % 64) (place % 64)) [
            | inl slot ↦ eq-eqb (q % 64) (place % 64) slot ∙ sym (eq-eqb q place (omega arith))
            | inr slot ↦ ne_eqb (q % 64) (place % 64) slot ∙ sym (ne_eqb q place (λ e. slot (ap (λ (n : ℕ). n % 64) e)))
          ])
      by (inr other) =
          ap (λ (r : Option (Packed V)). in_row r (q % 64))
          (row_step (q / 64) ∙ ap (λ (b : Bool). cond b o (packed_at rows (q / 64))) (ne_eqb (q / 64) (place / 64) other))
          ∙ sym (ap (λ (b : Bool). cond b w (in_row (packed_at rows (q / 64)) (q % 64))) (ne_eqb q place (λ e. other (ap (λ (n : ℕ). n / 64) e))))

-- a row that becomes one with the same in its slots changes nothing
pub sheet_same : {V : Type 0} (rows new : Packed (Packed V)) (r : ℕ) (o : Option (Packed V)) → ((k : ℕ) → packed_at new k ≡ cond (k == r) o (packed_at rows k)) → ((k : ℕ) → in_row o k ≡ in_row (packed_at rows r) k) → (q : ℕ) → sheet_at new q ≡ sheet_at rows q
unfolding sheet_at
sheet_same rows new r o step same q =
    ap (λ (x : Option (Packed _)). in_row x (q % 64)) (step (q / 64))
    ∙ elim (cases_eq (q / 64) r) [
      | inl here ↦
          ap (λ (b : Bool). in_row (cond b o (packed_at rows (q / 64))) (q % 64)) (eq-eqb (q / 64) r here)
          ∙ same (q % 64)
          ∙ ap (λ (n : ℕ). in_row (packed_at rows n) (q % 64)) (sym here)
      | inr other ↦ ap (λ (b : Bool). in_row (cond b o (packed_at rows (q / 64))) (q % 64)) (ne_eqb (q / 64) r other)
    ]

-- the same rows have the same places
pub sheet_from_fields : {V : Type 0} (rows new : Packed (Packed V)) → new.taken ≡ rows.taken → new.items.items ≡ rows.items.items → (q : ℕ) → sheet_at new q ≡ sheet_at rows q
unfolding sheet_at
sheet_from_fields rows new taken items q = λ i. in_row (slot_at (taken i) (items i) (q / 64)) (q % 64)

-- and none is empty where none was
pub filled_from_fields : {V : Type 0} (rows new : Packed (Packed V)) → HasNoEmptyRow rows → new.taken ≡ rows.taken → new.items.items ≡ rows.items.items → HasNoEmptyRow new
filled_from_fields rows new filled taken items r row at = filled r row (sym (λ i. slot_at (taken i) (items i) r) ∙ at)

-- slots without a bit have nothing
pub nothing_in : {T : Type 0} (slots : Packed T) → slots.taken ≡ 0 → (k : ℕ) → packed_at slots k ≡ None
nothing_in slots empty k =
    ap (λ (w : ℕ). slot_at w slots.items.items k) empty ∙ free_slot 0 slots.items.items k (bit_at-zero k)

-- a row that has something isn't empty
pub not_empty : {T : Type 0} (slots : Packed T) (k : ℕ) (v : T) → packed_at slots k ≡ Some v → slots.taken ≡ 0 → ⊥
not_empty slots k v some empty = none-some v (sym (nothing_in slots empty k) ∙ some)

module _ {V : Type 0} (rows new : Packed (Packed V)) (r : ℕ) (filled : HasNoEmptyRow rows) where
  -- no row becomes empty
  pub filled_step : (row : Packed V) → ((k : ℕ) → packed_at new k ≡ cond (k == r) (Some row) (packed_at rows k)) → (row.taken ≡ 0 → ⊥) → HasNoEmptyRow new
  filled_step row step some k other at = by (cases_eq k r)
    where
      by : (k ≡ r) ⊎ (k ≡ r → ⊥) → other.taken ≡ 0 → ⊥
      by (inl same) =
          let e : row ≡ other = same_Some row other (sym (step k ∙ ap (λ (b : Bool). cond b (Some row) (packed_at rows k)) (eq-eqb k r same)) ∙ at) in
          subst (λ (x : Packed V). x.taken ≡ 0 → ⊥) e some
      by (inr ne) =
          filled k other (sym (step k ∙ ap (λ (b : Bool). cond b (Some row) (packed_at rows k)) (ne_eqb k r ne)) ∙ at)

  -- nor where one is taken out
  pub filled_less : ((k : ℕ) → packed_at new k ≡ cond (k == r) None (packed_at rows k)) → HasNoEmptyRow new
  filled_less step k other at = by (cases_eq k r)
    where
      by : (k ≡ r) ⊎ (k ≡ r → ⊥) → other.taken ≡ 0 → ⊥
      by (inl same) =
          absurd (none-some other (sym (step k ∙ ap (λ (b : Bool). cond b None (packed_at rows k)) (eq-eqb k r same)) ∙ at))
      by (inr ne) =
          filled k other (sym (step k ∙ ap (λ (b : Bool). cond b None (packed_at rows k)) (ne_eqb k r ne)) ∙ at)

module _ {V : Type 0} (rows : Packed (Packed V)) where
  -- a place of a row that isn't there has nothing
  pub none_in_absent : (place : ℕ) → packed_at rows (place / 64) ≡ None → sheet_at rows place ≡ None
  unfolding sheet_at
  none_in_absent place none = ap (λ (r : Option (Packed V)). in_row r (place % 64)) none

  -- a place of a row that is there has what the row's slot has
  pub at_row : (row : Packed V) (place : ℕ) → packed_at rows (place / 64) ≡ Some row → sheet_at rows place ≡ packed_at row (place % 64)
  unfolding sheet_at
  at_row row place some = ap (λ (r : Option (Packed V)). in_row r (place % 64)) some

  pub in_slot_absent : (r : ℕ) → packed_at rows r ≡ None → (s : ℕ) (w : Option V) (k : ℕ) → cond (k == s) w None ≡ cond (k == s) w (in_row (packed_at rows r) k)
  in_slot_absent r none s w k = ap (λ (o : Option (Packed V)). cond (k == s) w (in_row o k)) (sym none)

  module _ (r : ℕ) (row : Packed V) (there : packed_at rows r ≡ Some row) where
    pub in_there : (k : ℕ) → in_row (packed_at rows r) k ≡ packed_at row k
    in_there k = ap (λ (o : Option (Packed V)). in_row o k) there

    pub in_slot_there : (s : ℕ) (w : Option V) (k : ℕ) → cond (k == s) w (packed_at row k) ≡ cond (k == s) w (in_row (packed_at rows r) k)
    in_slot_there s w k = ap (λ (o : Option V). cond (k == s) w o) (sym (in_there k))

    pub in_slot : (q : ℕ) → q / 64 ≡ r → sheet_at rows q ≡ packed_at row (q % 64)
    in_slot q same = at_row row q (ap (packed_at rows) same ∙ there)

    -- the last slot of a row is its last place
    pub last_in : (end : ℕ) → end ≤ 64 → (found : Option ℕ) → IsLastTaken (packed_at row) end found → IsLastInRow (sheet_at rows) r end (option_map (λ s. r * 64 + s) found)
    last_in end fits None none = λ q same lt. in_slot q same ∙ none (q % 64) (omega arith)
    last_in end fits (Some s) last =
        let below = last.0 in
        let place : (r * 64 + s) / 64 ≡ r = omega arith in
        let slot : (r * 64 + s) % 64 ≡ s = omega arith in (
          place,
          omega arith,
          subst (λ (o : Option V). IsSome o) (sym (in_slot (r * 64 + s) place ∙ ap (packed_at row) slot)) last.1,
          λ q same more lt. in_slot q same ∙ last.2 (q % 64) (omega arith) (omega arith),
        )

  -- nothing stands in a row that isn't there
  pub none_in_row : (r end : ℕ) → packed_at rows r ≡ None → IsLastInRow (sheet_at rows) r end None
  none_in_row r end none = λ q same lt. none_in_absent q (ap (packed_at rows) same ∙ none)

  -- the last place in a row is the last before the row's end
  pub last_here : (r end p : ℕ) → end ≤ 64 → IsLastInRow (sheet_at rows) r end (Some p) → IsLastTaken (sheet_at rows) (r * 64 + end) (Some p)
  last_here r end p fits last =
      let place = last.0 in
      let below = last.1 in
      (below, last.2, λ q more lt. last.3 q (omega arith) more lt)

  module _ (r end : ℕ) (fits : end ≤ 64) (none : IsLastInRow (sheet_at rows) r end None) where
    -- where there is none in its row, it is the last of the last row above
    last_above : (above p : ℕ) → IsLastTaken (packed_at rows) r (Some above) → IsLastInRow (sheet_at rows) above 64 (Some p) → IsLastTaken (sheet_at rows) (r * 64 + end) (Some p)
    last_above above p rest last =
        let place = last.0 in
        let below = last.1 in
        let upper = rest.0 in (
          omega arith,
          last.2,
          λ q more lt.
              elim (cases_lt (q / 64) r) [
                | inr h ↦ none q (omega arith) lt
                | inl h ↦
                    elim (cases_eq (q / 64) above) [
                      | inl same ↦ last.3 q same more (omega arith)
                      | inr other ↦ none_in_absent q (rest.2 (q / 64) (omega arith) h)
                    ]
              ],
        )

    pub last_of_above : (above : ℕ) (found : Option ℕ) → IsSome found → IsLastTaken (packed_at rows) r (Some above) → IsLastInRow (sheet_at rows) above 64 found → IsLastTaken (sheet_at rows) (r * 64 + end) found
    last_of_above above None there rest last = cc
    last_of_above above (Some p) there rest last = last_above above p rest last

    -- and where no row above is there, nothing is
    pub none_above : IsLastTaken (packed_at rows) r None → IsLastTaken (sheet_at rows) (r * 64 + end) None
    none_above rest = λ q lt.
        elim (cases_lt (q / 64) r) [
          | inr h ↦ none q (omega arith) lt
          | inl h ↦ none_in_absent q (rest (q / 64) h)
        ]

  -- no place lies past the last row
  pub none_past : IsLastInRow (sheet_at rows) 64 0 None
  none_past = λ q same lt. absurd (omega arith)

-- slots that all are free have no bit
pub empty_slots : {T : Type 0} (slots : Packed T) → IsLastTaken (packed_at slots) 64 None → slots.taken ≡ 0
empty_slots slots none =
    same_from_bits_below 64 slots.taken 0 slots.fits (omega arith)
    (λ k lt. clear_from_none slots.taken slots.items.items slots.fits slots.counted k (none k lt) ∙ sym (bit_at-zero k))

-- a row has a last place
pub some_last : {V : Type 0} (rows : Packed (Packed V)) → HasNoEmptyRow rows → (r : ℕ) (row : Packed V) → packed_at rows r ≡ Some row → (found : Option ℕ) → IsLastTaken (packed_at row) 64 found → IsSome (option_map (λ s. r * 64 + s) found)
some_last rows filled r row there None none = absurd (filled r row there (empty_slots row none))
some_last rows filled r row there (Some s) last = refl

-- a sheet on which one thing stands
pub sheet_one : {V : Type 0} (rows : Packed (Packed V)) (row : Packed V) (place : ℕ) (v : V) → ((k : ℕ) → packed_at rows k ≡ cond (k == place / 64) (Some row) None) → ((k : ℕ) → packed_at row k ≡ cond (k == place % 64) (Some v) None) → (q : ℕ) → sheet_at rows q ≡ cond (q == place) (Some v) None
unfolding sheet_at
sheet_one rows row place v one here q = by (cases_eq (q / 64) (place / 64))
  where
    by : (q / 64 ≡ place / 64) ⊎ (q / 64 ≡ place / 64 → ⊥) → in_row (packed_at rows (q / 64)) (q % 64) ≡ cond (q == place) (Some v) None
    by (inl same) =
        ap (λ (o : Option (Packed _)). in_row o (q % 64)) (one (q / 64) ∙ ap (λ (b : Bool). cond b (Some row) None) (eq-eqb (q / 64) (place / 64) same))
        ∙ here (q % 64)
        ∙ ap (λ (b : Bool). cond b (Some v) None)
        (elim (cases_eq (q % 64) (place % 64)) [
          | inl slot ↦ eq-eqb (q % 64) (place % 64) slot ∙ sym (eq-eqb q place (omega arith))
          | inr slot ↦ ne_eqb (q % 64) (place % 64) slot ∙ sym (ne_eqb q place (λ e. slot (ap (λ (n : ℕ). n % 64) e)))
        ])
    by (inr other) =
        ap (λ (o : Option (Packed _)). in_row o (q % 64)) (one (q / 64) ∙ ap (λ (b : Bool). cond b (Some row) None) (ne_eqb (q / 64) (place / 64) other))
        ∙ sym (ap (λ (b : Bool). cond b (Some v) None) (ne_eqb q place (λ e. other (ap (λ (n : ℕ). n / 64) e))))

pub filled_one : {V : Type 0} (rows : Packed (Packed V)) (row : Packed V) (r s : ℕ) (v : V) → ((k : ℕ) → packed_at rows k ≡ cond (k == r) (Some row) None) → packed_at row s ≡ Some v → HasNoEmptyRow rows
filled_one rows row r s v one here k other at = by (cases_eq k r)
  where
    by : (k ≡ r) ⊎ (k ≡ r → ⊥) → other.taken ≡ 0 → ⊥
    by (inl same) =
        let e : row ≡ other = same_Some row other (sym (one k ∙ ap (λ (b : Bool). cond b (Some row) None) (eq-eqb k r same)) ∙ at) in
        subst (λ (x : Packed _). x.taken ≡ 0 → ⊥) e (not_empty row s v here)
    by (inr ne) =
        absurd (none-some other (sym (one k ∙ ap (λ (b : Bool). cond b (Some row) None) (ne_eqb k r ne)) ∙ at))

-- a row after an insertion isn't empty
pub not_empty_after : {V X E : Type 0} (result : Result X E) (row new : Packed V) (s : ℕ) (v : V) → OnOk result ((k : ℕ) → packed_at new k ≡ cond (k == s) (Some v) (packed_at row k)) → OnErr result ((new.taken ≡ row.taken) × (new.items.items ≡ row.items.items)) → (row.taken ≡ 0 → ⊥) → new.taken ≡ 0 → ⊥
not_empty_after (Ok x) row new s v ok err some =
    not_empty new s v (ok s ∙ ap (λ (b : Bool). cond b (Some v) (packed_at row s)) (eq-eqb s s refl))
not_empty_after (Err e) row new s v ok err some = λ empty. some (sym err.0 ∙ empty)

-- the row at a rank, and another in its place
module _ {V : Type 0} (rows : Packed (Packed V)) (r rank : ℕ) (row : Packed V) (one : bit_at rows.taken r ≡ 1) (at : rank ≡ count_ones (rows.taken % 2 ^ r)) (read : row ≡ get_or rows.items.items rank row) where
  pub row_there : packed_at rows r ≡ Some row
  row_there = sym (read_slot rows.taken rows.items.items rows.fits rows.counted r rank row one at read)

  pub row_within : rank < length rows.items.items
  row_within = omega (arith, at, rank_within rows.taken rows.items.items rows.fits rows.counted r one)

  pub counted_set : (new : Packed V) → count_ones rows.taken ≡ length (set rows.items.items rank new)
  counted_set new = rows.counted ∙ sym (length-set rows.items.items rank new)

  pub rows_set : (new : Packed V) (k : ℕ) → slot_at rows.taken (set rows.items.items rank new) k ≡ cond (k == r) (Some new) (packed_at rows k)
  rows_set new k =
      ap (λ (n : ℕ). slot_at rows.taken (set rows.items.items n new) k) at
      ∙ slots_set rows.taken r rows.items.items new one (rank_within rows.taken rows.items.items rows.fits rows.counted r one) k

  -- the rows with the new one
  abbrev pub with_row : Packed V → Packed (Packed V)
  with_row new = record { taken = rows.taken; items = with_item rows.items rank new; fits = rows.fits; counted = counted_set new }

-- no row is empty after an insertion of one that isn't
pub filled_after : {V X E : Type 0} (result : Result X E) (rows new : Packed (Packed V)) (r : ℕ) (row : Packed V) → HasNoEmptyRow rows → OnOk result ((k : ℕ) → packed_at new k ≡ cond (k == r) (Some row) (packed_at rows k)) → OnErr result ((new.taken ≡ rows.taken) × (new.items.items ≡ rows.items.items)) → (row.taken ≡ 0 → ⊥) → HasNoEmptyRow new
filled_after (Ok x) rows new r row filled ok err some = filled_step rows new r filled row ok some
filled_after (Err e) rows new r row filled ok err some = filled_from_fields rows new filled err.0 err.1

-- slots with one thing
pub not_empty_one : {V : Type 0} (row : Packed V) (s : ℕ) (v : V) → ((k : ℕ) → packed_at row k ≡ cond (k == s) (Some v) None) → row.taken ≡ 0 → ⊥
not_empty_one row s v one = not_empty row s v (one s ∙ ap (λ (b : Bool). cond b (Some v) None) (eq-eqb s s refl))

-- nothing is taken out of a free place
pub sheet_none : {V : Type 0} (rows : Packed (Packed V)) (place : ℕ) → sheet_at rows place ≡ None → (q : ℕ) → sheet_at rows q ≡ cond (q == place) None (sheet_at rows q)
sheet_none rows place none q =
    elim (cases_eq q place) [
      | inl same ↦ ap (sheet_at rows) same ∙ none ∙ sym (ap (λ (b : Bool). cond b None (sheet_at rows q)) (eq-eqb q place same))
      | inr other ↦ sym (ap (λ (b : Bool). cond b None (sheet_at rows q)) (ne_eqb q place other))
    ]

-- rows of which no place has anything are none
pub nothing_on : {V : Type 0} (rows : Packed (Packed V)) → HasNoEmptyRow rows → ((q : ℕ) → q < 4096 → sheet_at rows q ≡ None) → rows.taken ≡ 0
nothing_on rows filled none = empty_slots rows (λ r lt. absent r lt (packed_at rows r) refl)
  where
    absent : (r : ℕ) → r < 64 → (o : Option (Packed _)) → packed_at rows r ≡ o → packed_at rows r ≡ None
    absent r lt None there = there
    absent r lt (Some row) there =
        absurd
        (filled r row there
        (empty_slots row
        (λ s within.
        let place : (r * 64 + s) / 64 ≡ r = omega arith in
        let slot : (r * 64 + s) % 64 ≡ s = omega arith in
        ap (packed_at row) (sym slot) ∙ sym (in_slot rows r row there (r * 64 + s) place) ∙ none (r * 64 + s) (omega arith))))
