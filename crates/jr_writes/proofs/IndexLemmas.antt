-- What keeps the places of the settled pieces and their writes in step.
use Rattle.std.proofs.Common.{◌≡◌, ℕ, ◌≤◌, Bool, true, false, not, ◌||◌, cond, List, Option, Some, None, arith, refl, sym, ap, subst, ◌∙◌, ⊎_elim, ◌⊎◌, inl, inr}
use Rattle.std.proofs.lemmas.Bool.{cases_Bool, false_from_ne_true}
use Rattle.std.proofs.lemmas.Bool.Decides.{nat_tests}
use Rattle.std.proofs.lemmas.Cmp.{nat_cmp_total, on_total, then_total, tied_itself}
use Rattle.std.proofs.lemmas.List.Elements.{All-weaker}
use Rattle.std.proofs.lemmas.Map.Views.{All-found}
use Rattle.std.proofs.lemmas.Option.{none-some, same_Some}
use Rattle.std.specs.BTreeMap.{BTreeMap, IsOrdered, insert_entry, is_at}
use Rattle.std.specs.Cmp.{IsTotalOrder}
use Rattle.std.specs.declared.cmp.Ordering.TheVariants.{Equal}
use Rattle.std.specs.List.{All, filter}
use Rattle.std.specs.List.Sorted.{IsStrictlySortedBy}
use Rattle.std.specs.Map.{keys_of, remove_entry}
use Rattle.std.specs.Option.{option_map}
use Rattle.std.specs.Ordering.{is_eq}
use Rattle.jr_model.specs.declared.blocks.Piece.{Piece}
use Rattle.jr_model.specs.declared.events.WriteId.{WriteId}
use Rattle.jr_model.specs.History.{same_write, write_order}
use Rattle.jr_model.specs.Pieces.{pieces_overlap}
use Rattle.jr_model.proofs.Equality.{eq_write, is_at-write_order, write_order_total}
use Rattle.jr_model.proofs.BoolLemmas.{never_both}
use Rattle.jr_model.proofs.PieceLemmas.{overlap_turned}
use Rattle.jr_writes.specs.declared.kept.Kept.{Kept}
use Rattle.jr_writes.specs.declared.spot.Spot.{Spot}
use Rattle.jr_writes.specs.Index.{IsIndexed, NoneOverlaps, StandsHere, is_kept, kept_of, piece_at, place_of, place_order, spot_of, stays}
use Rattle.jr_writes.proofs.EntryLemmas.{filter-insert_entry, filter-remove_entry}
use Rattle.jr_writes.proofs.Overlaps.{same_place, place_itself}

pub place_order_total : IsTotalOrder place_order
place_order_total =
    then_total (on_total (λ (p : ℕ × ℕ). p.0) nat_cmp_total) (on_total (λ (p : ℕ × ℕ). p.1) nat_cmp_total)

pub write_itself : (a : WriteId) → is_at (write_order a) a ≡ true
write_itself a = ap is_eq (tied_itself write_order_total a)

pub write_same : (a b : WriteId) → is_at (write_order a) b ≡ true → a ≡ b
write_same a b h = eq_write a b (sym (is_at-write_order a b) ∙ h)

place_parts : (a b : ℕ × ℕ) → is_at (place_order a) b ≡ true → (a.0 ≡ b.0) × (a.1 ≡ b.1)
place_parts a b h = grind (arith, nat_tests)

pub place_same : (a b : ℕ × ℕ) → is_at (place_order a) b ≡ true → a ≡ b
place_same a b h = let parts = place_parts a b h in same_place a b parts.0 parts.1

-- what is there where some are taken out
left_at : {X : Type 0} (b : Bool) (o : Option X) (x : X) → cond b None o ≡ Some x → (b ≡ false) × (o ≡ Some x)
left_at true o x h = absurd (none-some x h)
left_at false o x h = (refl, h)

-- and where one is put in
put_at : {X : Type 0} (b : Bool) (y : X) (o : Option X) (x : X) → cond b (Some y) o ≡ Some x → ((b ≡ true) × (y ≡ x)) ⊎ ((b ≡ false) × (o ≡ Some x))
put_at true y o x h = inl (refl, same_Some y x h)
put_at false y o x h = inr (refl, h)

module _ (kept : Option WriteId) (entry_of left_of : WriteId → Option Kept) (spot_in left_in : ℕ × ℕ → Option Spot) (place : ℕ × ℕ) (spot : Spot)
    (index : IsIndexed kept entry_of spot_in) (at : spot_in place ≡ Some spot)
    (without : (q : WriteId) → left_of q ≡ cond (is_at (write_order spot.write) q) None (entry_of q))
    (gone : (q : ℕ × ℕ) → left_in q ≡ cond (is_at (place_order place) q) None (spot_in q)) where
  -- what is left at a place was there, and it is another place
  pub was_in : (q : ℕ × ℕ) (t : Spot) → left_in q ≡ Some t → (is_at (place_order place) q ≡ false) × (spot_in q ≡ Some t)
  was_in q t h = left_at (is_at (place_order place) q) (spot_in q) t (sym (gone q) ∙ h)

  still_stands : (write : WriteId) (entry : Kept) → left_of write ≡ Some entry → left_in (place_of entry.piece) ≡ Some (spot_of write entry.piece)
  still_stands write entry h =
      let was = left_at (is_at (write_order spot.write) write) (entry_of write) entry (sym (without write) ∙ h) in
      let stood = index.stands write entry was.1 in
      let other : is_at (place_order place) (place_of entry.piece) ≡ false =
      false_from_ne_true (is_at (place_order place) (place_of entry.piece))
      (λ here.
      let same : place ≡ place_of entry.piece = place_same place (place_of entry.piece) here in
      let one : spot ≡ spot_of write entry.piece = cc in
      let named : spot.write ≡ write = ap (λ (s : Spot). s.write) one in
      never_both (is_at (write_order spot.write) write) (ap (λ (w : WriteId). is_at (write_order spot.write) w) (sym named) ∙ write_itself spot.write) was.0) in
      gone (place_of entry.piece) ∙ ap (λ (b : Bool). cond b None (spot_in (place_of entry.piece))) other ∙ stood

  still_leads : (q : ℕ × ℕ) (t : Spot) → left_in q ≡ Some t → option_map (λ e. e.piece) (left_of t.write) ≡ Some (piece_at q t)
  still_leads q t h =
      let was = was_in q t h in
      let back = index.leads_back q t was.1 in
      let here = index.leads_back place spot at in
      let other : is_at (write_order spot.write) t.write ≡ false =
      false_from_ne_true (is_at (write_order spot.write) t.write)
      (λ same.
      let one : spot.write ≡ t.write = write_same spot.write t.write same in
      let pieces : piece_at place spot ≡ piece_at q t =
      same_Some (piece_at place spot) (piece_at q t) (sym here ∙ ap (λ (w : WriteId). option_map (λ (e : Kept). e.piece) (entry_of w)) one ∙ back) in
      let places : place ≡ q = same_place place q (ap (λ (x : Piece). x.file) pieces) (ap (λ (x : Piece). x.offset) pieces) in
      never_both (is_at (place_order place) q) (ap (λ (x : ℕ × ℕ). is_at (place_order place) x) (sym places) ∙ place_itself place) was.0) in
      ap (λ (o : Option Kept). option_map (λ (e : Kept). e.piece) o)
      (without t.write ∙ ap (λ (b : Bool). cond b None (entry_of t.write)) other)
      ∙ back

  -- one write and its spot taken out
  pub IsIndexed-removed : IsIndexed kept left_of left_in
  IsIndexed-removed = record {
    stands = still_stands;
    leads_back = still_leads;
    disjoint = record {
      sized = λ q t h. index.disjoint.sized q t (was_in q t h).1;
      apart = λ p q s t x y other others shared. index.disjoint.apart p q s t (was_in p s x).1 (was_in q t y).1 other others shared;
    };
  }

  pub StandsHere-removed : (piece : Piece) → StandsHere kept piece spot_in → StandsHere kept piece left_in
  StandsHere-removed piece here q t h = here q t (was_in q t h).1

module _ (entry_of new_of : WriteId → Option Kept) (spot_in new_in : ℕ × ℕ → Option Spot) (write : WriteId) (entry : Kept)
    (index : IsIndexed None entry_of spot_in) (fresh : entry_of write ≡ None) (free : spot_in (place_of entry.piece) ≡ None) (filled : 1 ≤ entry.piece.len)
    (with : (q : WriteId) → new_of q ≡ cond (is_at (write_order write) q) (Some entry) (entry_of q))
    (put : (q : ℕ × ℕ) → new_in q ≡ cond (is_at (place_order (place_of entry.piece)) q) (Some (spot_of write entry.piece)) (spot_in q)) where
  is_in : (q : ℕ × ℕ) (t : Spot) → new_in q ≡ Some t → ((is_at (place_order (place_of entry.piece)) q ≡ true) × (spot_of write entry.piece ≡ t)) ⊎ ((is_at (place_order (place_of entry.piece)) q ≡ false) × (spot_in q ≡ Some t))
  is_in q t h = put_at (is_at (place_order (place_of entry.piece)) q) (spot_of write entry.piece) (spot_in q) t (sym (put q) ∙ h)

  now_stands : (w : WriteId) (e : Kept) → new_of w ≡ Some e → new_in (place_of e.piece) ≡ Some (spot_of w e.piece)
  now_stands w e h =
      ⊎_elim
      (λ (here : (is_at (write_order write) w ≡ true) × (entry ≡ e)).
      let one : write ≡ w = write_same write w here.0 in
      put (place_of e.piece)
      ∙ ap (λ (x : Kept). cond (is_at (place_order (place_of entry.piece)) (place_of x.piece)) (Some (spot_of write entry.piece)) (spot_in (place_of x.piece))) (sym here.1)
      ∙ ap (λ (b : Bool). cond b (Some (spot_of write entry.piece)) (spot_in (place_of entry.piece))) (place_itself (place_of entry.piece))
      ∙ (λ i. Some (spot_of (one i) ((here.1 i).piece))))
      (λ (there : (is_at (write_order write) w ≡ false) × (entry_of w ≡ Some e)).
      let stood = index.stands w e there.1 in
      let other : is_at (place_order (place_of entry.piece)) (place_of e.piece) ≡ false =
      false_from_ne_true (is_at (place_order (place_of entry.piece)) (place_of e.piece))
      (λ here. none-some (spot_of w e.piece) (sym free ∙ ap spot_in (place_same (place_of entry.piece) (place_of e.piece) here) ∙ stood)) in
      put (place_of e.piece) ∙ ap (λ (b : Bool). cond b (Some (spot_of write entry.piece)) (spot_in (place_of e.piece))) other ∙ stood)
      (put_at (is_at (write_order write) w) entry (entry_of w) e (sym (with w) ∙ h))

  now_leads : (q : ℕ × ℕ) (t : Spot) → new_in q ≡ Some t → option_map (λ e. e.piece) (new_of t.write) ≡ Some (piece_at q t)
  now_leads q t h =
      ⊎_elim
      (λ (here : (is_at (place_order (place_of entry.piece)) q ≡ true) × (spot_of write entry.piece ≡ t)).
      let place : place_of entry.piece ≡ q = place_same (place_of entry.piece) q here.0 in
      ap (λ (s : Spot). option_map (λ (e : Kept). e.piece) (new_of s.write)) (sym here.1)
      ∙ ap (λ (o : Option Kept). option_map (λ (e : Kept). e.piece) o) (with write ∙ ap (λ (b : Bool). cond b (Some entry) (entry_of write)) (write_itself write))
      ∙ (λ i. Some (piece_at (place i) (here.1 i))))
      (λ (there : (is_at (place_order (place_of entry.piece)) q ≡ false) × (spot_in q ≡ Some t)).
      let back = index.leads_back q t there.1 in
      let other : is_at (write_order write) t.write ≡ false =
      false_from_ne_true (is_at (write_order write) t.write)
      (λ same.
      let one : write ≡ t.write = write_same write t.write same in
      none-some (piece_at q t) (ap (λ (o : Option Kept). option_map (λ (e : Kept). e.piece) o) (sym fresh ∙ ap entry_of one) ∙ back)) in
      ap (λ (o : Option Kept). option_map (λ (e : Kept). e.piece) o) (with t.write ∙ ap (λ (b : Bool). cond b (Some entry) (entry_of t.write)) other) ∙ back)
      (is_in q t h)

  -- it isn't the new one
  older : (q : ℕ × ℕ) (t : Spot) → new_in q ≡ Some t → is_kept (Some write) t.write ≡ false → spot_in q ≡ Some t
  older q t h other =
      ⊎_elim
      (λ (here : (is_at (place_order (place_of entry.piece)) q ≡ true) × (spot_of write entry.piece ≡ t)).
      absurd (never_both (same_write write t.write) (ap (λ (s : Spot). same_write write s.write) (sym here.1) ∙ sym (is_at-write_order write write) ∙ write_itself write) other))
      (λ (there : (is_at (place_order (place_of entry.piece)) q ≡ false) × (spot_in q ≡ Some t)). there.1)
      (is_in q t h)

  -- a new write and its spot put in, at a free place
  pub IsIndexed-inserted : IsIndexed (Some write) new_of new_in
  IsIndexed-inserted = record {
    stands = now_stands;
    leads_back = now_leads;
    disjoint = record {
      sized = λ q t h.
          ⊎_elim
          (λ (here : (is_at (place_order (place_of entry.piece)) q ≡ true) × (spot_of write entry.piece ≡ t)). subst (λ (s : Spot). 1 ≤ s.len) here.1 filled)
          (λ (there : (is_at (place_order (place_of entry.piece)) q ≡ false) × (spot_in q ≡ Some t)). index.disjoint.sized q t there.1)
          (is_in q t h);
      apart = λ p q s t x y other others shared. index.disjoint.apart p q s t (older p s x other) (older q t y others) refl refl shared;
    };
  }

  -- the new write stands at its piece alone
  pub StandsHere-inserted : StandsHere (Some write) entry.piece new_in
  StandsHere-inserted q t h same =
      ⊎_elim
      (λ (here : (is_at (place_order (place_of entry.piece)) q ≡ true) × (spot_of write entry.piece ≡ t)).
      let place : place_of entry.piece ≡ q = place_same (place_of entry.piece) q here.0 in
      λ i. piece_at (sym place i) (sym here.1 i))
      (λ (there : (is_at (place_order (place_of entry.piece)) q ≡ false) × (spot_in q ≡ Some t)).
      let one : write ≡ t.write = eq_write write t.write same in
      absurd (none-some (piece_at q t) (ap (λ (o : Option Kept). option_map (λ (e : Kept). e.piece) o) (sym fresh ∙ ap entry_of one) ∙ index.leads_back q t there.1)))
      (is_in q t h)

module _ (kept : Option WriteId) (piece : Piece) (entry_of : WriteId → Option Kept) (spot_in : ℕ × ℕ → Option Spot)
    (index : IsIndexed kept entry_of spot_in) (here : StandsHere kept piece spot_in) (none : NoneOverlaps kept piece spot_in) where
  all_apart : (p q : ℕ × ℕ) (s t : Spot) → spot_in p ≡ Some s → spot_in q ≡ Some t → pieces_overlap (piece_at p s) (piece_at q t) ≡ true → p ≡ q
  all_apart p q s t x y shared =
      ⊎_elim
      (λ (a : is_kept kept s.write ≡ true).
      let mine = here p s x a in
      ⊎_elim
      (λ (b : is_kept kept t.write ≡ true).
      let one : piece_at p s ≡ piece_at q t = mine ∙ sym (here q t y b) in
      same_place p q (ap (λ (z : Piece). z.file) one) (ap (λ (z : Piece). z.offset) one))
      (λ (b : is_kept kept t.write ≡ false).
      absurd (never_both (pieces_overlap piece (piece_at q t)) (ap (λ (z : Piece). pieces_overlap z (piece_at q t)) (sym mine) ∙ shared) (none q t y b)))
      (cases_Bool (is_kept kept t.write)))
      (λ (a : is_kept kept s.write ≡ false).
      ⊎_elim
      (λ (b : is_kept kept t.write ≡ true).
      let mine = here q t y b in
      absurd
      (never_both (pieces_overlap piece (piece_at p s))
      (ap (λ (z : Piece). pieces_overlap z (piece_at p s)) (sym mine) ∙ overlap_turned (piece_at p s) (piece_at q t) shared)
      (none p s x a)))
      (λ (b : is_kept kept t.write ≡ false). index.disjoint.apart p q s t x y a b shared)
      (cases_Bool (is_kept kept t.write)))
      (cases_Bool (is_kept kept s.write))

  -- where nothing overlaps the kept write's piece, all are disjoint
  pub IsIndexed-whole : IsIndexed None entry_of spot_in
  IsIndexed-whole = record {
    stands = index.stands;
    leads_back = index.leads_back;
    disjoint = record {
      sized = index.disjoint.sized;
      apart = λ p q s t x y other others shared. all_apart p q s t x y shared;
    };
  }

  pub one_stays : (write : WriteId) (entry : Kept) → entry_of write ≡ Some entry → stays kept piece (write, entry) ≡ true
  one_stays write entry at =
      by (is_kept kept write) (pieces_overlap piece entry.piece) (λ other. none (place_of entry.piece) (spot_of write entry.piece) (index.stands write entry at) other)
    where
      by : (b c : Bool) → (b ≡ false → c ≡ false) → (b || not c) ≡ true
      by true c h = refl
      by false true h = absurd (never_both true refl (h refl))
      by false false h = refl

-- and all entries stay
pub all_stay : (kept : Option WriteId) (piece : Piece) (writes : BTreeMap WriteId Kept) (spot_in : ℕ × ℕ → Option Spot) → IsOrdered write_order writes → IsIndexed kept (kept_of writes.entries) spot_in → StandsHere kept piece spot_in → NoneOverlaps kept piece spot_in → All (λ e. stays kept piece e ≡ true) writes.entries
all_stay kept piece writes spot_in ordered index here none =
    All-weaker (λ (e : WriteId × Kept). kept_of writes.entries e.0 ≡ Some e.1) (λ (e : WriteId × Kept). stays kept piece e ≡ true)
    (λ e at. one_stays kept piece (kept_of writes.entries) spot_in index here none e.0 e.1 at)
    writes.entries
    (All-found write_order_total writes ordered)

-- an entry with this piece
pub found_piece : (o : Option Kept) (piece : Piece) → option_map (λ e. e.piece) o ≡ Some piece → (e : Kept) × (o ≡ Some e) × (e.piece ≡ piece)
found_piece None piece h = absurd (none-some piece h)
found_piece (Some e) piece h = (e, refl, same_Some e.piece piece h)

-- what stays is the same without a write whose piece overlaps
pub filter-removed : (kept : Option WriteId) (piece : Piece) (es : List (WriteId × Kept)) (place : ℕ × ℕ) (spot : Spot) → option_map (λ e. e.piece) (kept_of es spot.write) ≡ Some (piece_at place spot) → is_kept kept spot.write ≡ false → pieces_overlap piece (piece_at place spot) ≡ true → filter (stays kept piece) (remove_entry (is_at (write_order spot.write)) es) ≡ filter (stays kept piece) es
filter-removed kept piece es place spot back other shared =
    let found = found_piece (kept_of es spot.write) (piece_at place spot) back in
    filter-remove_entry (stays kept piece) (is_at (write_order spot.write)) es found.0 found.1
    (λ k here.
    dropped (is_kept kept k) (pieces_overlap piece found.0.piece)
    (ap (λ (w : WriteId). is_kept kept w) (sym (write_same spot.write k here)) ∙ other)
    (ap (λ (p : Piece). pieces_overlap piece p) found.2 ∙ shared))
  where
    dropped : (b c : Bool) → b ≡ false → c ≡ true → (b || not c) ≡ false
    dropped true c x y = absurd (never_both true refl x)
    dropped false true x y = refl
    dropped false false x y = absurd (never_both false y refl)

module _ (write : WriteId) (entry : Kept) (es : List (WriteId × Kept)) (ordered : IsStrictlySortedBy write_order (keys_of es)) (fresh : kept_of es write ≡ None) where
  -- what stays of the entries with a new one is the new one and what of the others lies apart from it
  pub filter-inserted : filter (stays (Some write) entry.piece) (insert_entry write_order es write entry) ≡ insert_entry write_order (filter (stays None entry.piece) es) write entry
  filter-inserted =
      filter-insert_entry write_order_total write entry (stays (Some write) entry.piece) (stays None entry.piece)
      (ap (λ (b : Bool). b || stays None entry.piece (write, entry)) (sym (is_at-write_order write write) ∙ write_itself write))
      (λ e other. ap (λ (b : Bool). b || stays None entry.piece e) (differs e.0 other))
      es ordered fresh
    where
      differs : (w : WriteId) → (write_order write w ≡ Equal → ⊥) → same_write write w ≡ false
      differs w other =
          false_from_ne_true (same_write write w)
          (λ same. other (subst (λ (x : WriteId). write_order write x ≡ Equal) (eq_write write w same) (tied_itself write_order_total write)))
