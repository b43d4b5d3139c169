-- What a new write leaves where a piece begins at its place.
use Rattle.std.proofs.Common.{◌≡◌, ℕ, ◌≤◌, Bool, true, false, cond, List, Option, Some, None, arith, refl, sym, ap, ◌∙◌, filter}
use Rattle.std.proofs.lemmas.Bool.{false_from_ne_true}
use Rattle.std.proofs.lemmas.Option.{none-some}
use Rattle.std.specs.BTreeMap.{insert_entry, is_at}
use Rattle.std.specs.List.Sorted.{IsStrictlySortedBy}
use Rattle.std.specs.Map.{keys_of, remove_entry}
use Rattle.std.specs.Option.{option_map}
use Rattle.jr_model.specs.declared.events.WriteId.{WriteId}
use Rattle.jr_model.specs.Pieces.{pieces_overlap}
use Rattle.jr_model.specs.History.{write_order}
use Rattle.jr_model.proofs.Equality.{is_at-write_order}
use Rattle.jr_writes.specs.declared.kept.Kept.{Kept}
use Rattle.jr_writes.specs.declared.spot.Spot.{Spot}
use Rattle.jr_writes.specs.Index.{IsIndexed, StandsHere, kept_of, piece_at, place_of, place_order, spot_of, stays}
use Rattle.jr_writes.proofs.IndexLemmas.{IsIndexed-inserted, IsIndexed-removed, StandsHere-inserted, filter-inserted, filter-removed, write_same}
use Rattle.jr_writes.proofs.Overlaps.{overlap_from_parts, place_itself}

turned : {X : Type 0} (b c : Bool) (y : X) (o : Option X) → (b ≡ true → c ≡ true → ⊥) → cond b None (cond c (Some y) o) ≡ cond c (Some y) (cond b None o)
turned true true y o h = absurd (h refl refl)
turned true false y o h = refl
turned false true y o h = refl
turned false false y o h = refl

again : {X : Type 0} (b : Bool) (y : X) (o : Option X) → cond b (Some y) o ≡ cond b (Some y) (cond b None o)
again true y o = refl
again false y o = refl

none_both : {X : Type 0} (b : Bool) (o : Option X) → o ≡ None → cond b None o ≡ None
none_both true o h = refl
none_both false o h = h

module _ (entry_of : WriteId → Option Kept) (spot_in : ℕ × ℕ → Option Spot) (write : WriteId) (entry : Kept) (older : Spot)
    (index : IsIndexed None entry_of spot_in) (fresh : entry_of write ≡ None) (at : spot_in (place_of entry.piece) ≡ Some older) (filled : 1 ≤ entry.piece.len) where
  -- the older write isn't the new one
  pub older_differs : is_at (write_order write) older.write ≡ false
  older_differs =
      false_from_ne_true (is_at (write_order write) older.write)
      (λ same.
      let one : write ≡ older.write = write_same write older.write same in
      none-some (piece_at (place_of entry.piece) older)
      (ap (λ (o : Option Kept). option_map (λ (e : Kept). e.piece) o) (sym fresh ∙ ap entry_of one) ∙ index.leads_back (place_of entry.piece) older at))

  module _ (new_of : WriteId → Option Kept) (new_in : ℕ × ℕ → Option Spot)
      (with : (q : WriteId) → new_of q ≡ cond (is_at (write_order older.write) q) None (cond (is_at (write_order write) q) (Some entry) (entry_of q)))
      (put : (q : ℕ × ℕ) → new_in q ≡ cond (is_at (place_order (place_of entry.piece)) q) (Some (spot_of write entry.piece)) (spot_in q)) where
    abbrev left_of : WriteId → Option Kept
    left_of q = cond (is_at (write_order older.write) q) None (entry_of q)

    abbrev left_in : ℕ × ℕ → Option Spot
    left_in q = cond (is_at (place_order (place_of entry.piece)) q) None (spot_in q)

    left : IsIndexed None left_of left_in
    left = IsIndexed-removed None entry_of left_of spot_in left_in (place_of entry.piece) older index at (λ q. refl) (λ q. refl)

    left_fresh : left_of write ≡ None
    left_fresh = none_both (is_at (write_order older.write) write) (entry_of write) fresh

    left_free : left_in (place_of entry.piece) ≡ None
    left_free = ap (λ (b : Bool). cond b None (spot_in (place_of entry.piece))) (place_itself (place_of entry.piece))

    new_is : (q : WriteId) → new_of q ≡ cond (is_at (write_order write) q) (Some entry) (left_of q)
    new_is q =
        with q
        ∙ turned (is_at (write_order older.write) q) (is_at (write_order write) q) entry (entry_of q)
        (λ x y.
        let one : older.write ≡ q = write_same older.write q x in
        let two : write ≡ q = write_same write q y in
        none-some (piece_at (place_of entry.piece) older)
        (ap (λ (o : Option Kept). option_map (λ (e : Kept). e.piece) o) (sym fresh ∙ ap entry_of (two ∙ sym one)) ∙ index.leads_back (place_of entry.piece) older at))

    in_is : (q : ℕ × ℕ) → new_in q ≡ cond (is_at (place_order (place_of entry.piece)) q) (Some (spot_of write entry.piece)) (left_in q)
    in_is q = put q ∙ again (is_at (place_order (place_of entry.piece)) q) (spot_of write entry.piece) (spot_in q)

    pub IsIndexed-over : IsIndexed (Some write) new_of new_in
    IsIndexed-over = IsIndexed-inserted left_of new_of left_in new_in write entry left left_fresh left_free filled new_is in_is

    pub StandsHere-over : StandsHere (Some write) entry.piece new_in
    StandsHere-over = StandsHere-inserted left_of new_of left_in new_in write entry left left_fresh left_free filled new_is in_is

module _ (write : WriteId) (entry : Kept) (older : Spot) (es : List (WriteId × Kept)) (spot_in : ℕ × ℕ → Option Spot)
    (ordered : IsStrictlySortedBy write_order (keys_of es)) (index : IsIndexed None (kept_of es) spot_in) (fresh : kept_of es write ≡ None)
    (at : spot_in (place_of entry.piece) ≡ Some older) (filled : 1 ≤ entry.piece.len)
    (new : List (WriteId × Kept)) (put : new ≡ insert_entry write_order es write entry)
    (with : (q : WriteId) → kept_of new q ≡ cond (is_at (write_order write) q) (Some entry) (kept_of es q)) where
  -- what stays of the entries is the same without the older one
  pub filter-over : filter (stays (Some write) entry.piece) (remove_entry (is_at (write_order older.write)) new) ≡ insert_entry write_order (filter (stays None entry.piece) es) write entry
  filter-over =
      filter-removed (Some write) entry.piece new (place_of entry.piece) older
      (ap (λ (o : Option Kept). option_map (λ (e : Kept). e.piece) o)
      (with older.write ∙ ap (λ (b : Bool). cond b (Some entry) (kept_of es older.write)) differs)
      ∙ index.leads_back (place_of entry.piece) older at)
      (sym (is_at-write_order write older.write) ∙ differs)
      shared
      ∙ ap (filter (stays (Some write) entry.piece)) put
      ∙ filter-inserted write entry es ordered fresh
    where
      differs : is_at (write_order write) older.write ≡ false
      differs = older_differs (kept_of es) spot_in write entry older index fresh at filled

      shared : pieces_overlap entry.piece (piece_at (place_of entry.piece) older) ≡ true
      shared =
          let size = index.disjoint.sized (place_of entry.piece) older at in
          overlap_from_parts entry.piece (piece_at (place_of entry.piece) older) refl (omega arith) (omega arith) (omega arith) (omega arith)
