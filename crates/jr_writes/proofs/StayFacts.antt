-- What stays of the kept writes, through a step.
use Rattle.std.proofs.Common.{◌≡◌, ℕ, ◌≤◌, Bool, true, false, not, ◌||◌, cond, Option, Some, None, arith, refl, sym, ap, ◌∙◌}
use Rattle.std.specs.BTreeMap.{is_at}
use Rattle.std.specs.Option.{option_map}
use Rattle.jr_model.specs.declared.blocks.Piece.{Piece}
use Rattle.jr_model.specs.declared.events.WriteId.{WriteId}
use Rattle.jr_model.specs.History.{same_write, write_order}
use Rattle.jr_model.specs.Pieces.{pieces_overlap}
use Rattle.jr_model.proofs.Equality.{is_at-write_order}
use Rattle.jr_writes.specs.declared.kept.Kept.{Kept}
use Rattle.jr_writes.specs.declared.spot.Spot.{Spot}
use Rattle.jr_writes.specs.Index.{IsIndexed, NoneOverlaps, StandsHere, is_kept, piece_at, place_of}
use Rattle.jr_writes.specs.Staying.{if_stays, left_of}
use Rattle.jr_writes.proofs.IndexLemmas.{found_piece, one_stays, write_same}
use Rattle.jr_writes.proofs.Overlaps.{overlap_from_parts}
use Rattle.jr_writes.proofs.PutLemmas.{older_differs}

-- with a new write, what stays of the others is what stayed, and the new one stays
pub left_inserted : (write : WriteId) (entry : Kept) (old new : WriteId → Option Kept) → ((q : WriteId) → new q ≡ cond (is_at (write_order write) q) (Some entry) (old q)) → (q : WriteId) → left_of (Some write) entry.piece new q ≡ cond (is_at (write_order write) q) (Some entry) (left_of None entry.piece old q)
left_inserted write entry old new step q =
    ap (if_stays (Some write) entry.piece q) (step q)
    ∙ by (is_at (write_order write) q) (sym (is_at-write_order write q)) (old q)
  where
    by : (b : Bool) → same_write write q ≡ b → (o : Option Kept) → if_stays (Some write) entry.piece q (cond b (Some entry) o) ≡ cond b (Some entry) (if_stays None entry.piece q o)
    by true h o = ap (λ (c : Bool). cond (c || not (pieces_overlap entry.piece entry.piece)) (Some entry) None) h
    by false h None = refl
    by false h (Some kept) = ap (λ (c : Bool). cond (c || not (pieces_overlap entry.piece kept.piece)) (Some kept) None) h

module _ (kept : Option WriteId) (piece other : Piece) (gone : WriteId) (old new : WriteId → Option Kept)
    (step : (q : WriteId) → new q ≡ cond (is_at (write_order gone) q) None (old q))
    (back : option_map (λ e. e.piece) (old gone) ≡ Some other) (differs : is_kept kept gone ≡ false) (shared : pieces_overlap piece other ≡ true) where
  goes : if_stays kept piece gone (old gone) ≡ None
  goes =
      let found = found_piece (old gone) other back in
      ap (if_stays kept piece gone) found.1
      ∙ ap (λ (p : Piece). cond (is_kept kept gone || not (pieces_overlap piece p)) (Some found.0) None) found.2
      ∙ ap (λ (b : Bool). cond (b || not (pieces_overlap piece other)) (Some found.0) None) differs
      ∙ ap (λ (b : Bool). cond (not b) (Some found.0) None) shared

  -- without a write that doesn't stay, the same stays
  pub left_removed : (q : WriteId) → left_of kept piece new q ≡ left_of kept piece old q
  left_removed q = ap (if_stays kept piece q) (step q) ∙ by (is_at (write_order gone) q) refl
    where
      by : (b : Bool) → is_at (write_order gone) q ≡ b → if_stays kept piece q (cond b None (old q)) ≡ if_stays kept piece q (old q)
      by true h = sym goes ∙ ap (λ (w : WriteId). if_stays kept piece w (old w)) (write_same gone q h)
      by false h = refl

-- where nothing overlaps, all stays
pub left_whole : (kept : Option WriteId) (piece : Piece) (entry_of : WriteId → Option Kept) (spot_in : ℕ × ℕ → Option Spot) → IsIndexed kept entry_of spot_in → StandsHere kept piece spot_in → NoneOverlaps kept piece spot_in → (q : WriteId) → entry_of q ≡ left_of kept piece entry_of q
left_whole kept piece entry_of spot_in index here none q = by (entry_of q) refl
  where
    by : (o : Option Kept) → entry_of q ≡ o → o ≡ if_stays kept piece q o
    by None h = refl
    by (Some entry) h = sym (ap (λ (b : Bool). cond b (Some entry) None) (one_stays kept piece entry_of spot_in index here none q entry h))

-- with a new write in the place of an older one
module _ (write : WriteId) (entry : Kept) (older : Spot) (old mid new : WriteId → Option Kept) (spot_in : ℕ × ℕ → Option Spot)
    (index : IsIndexed None old spot_in) (fresh : old write ≡ None) (at : spot_in (place_of entry.piece) ≡ Some older) (filled : 1 ≤ entry.piece.len)
    (put : (q : WriteId) → mid q ≡ cond (is_at (write_order write) q) (Some entry) (old q))
    (out : (q : WriteId) → new q ≡ cond (is_at (write_order older.write) q) None (mid q)) where
  pub left_over : (q : WriteId) → left_of (Some write) entry.piece new q ≡ cond (is_at (write_order write) q) (Some entry) (left_of None entry.piece old q)
  left_over q =
      left_removed (Some write) entry.piece (piece_at (place_of entry.piece) older) older.write mid new out
      (ap (λ (o : Option Kept). option_map (λ (e : Kept). e.piece) o)
      (put older.write ∙ ap (λ (b : Bool). cond b (Some entry) (old older.write)) differs)
      ∙ index.leads_back (place_of entry.piece) older at)
      (sym (is_at-write_order write older.write) ∙ differs)
      shared q
      ∙ left_inserted write entry old mid put q
    where
      differs : is_at (write_order write) older.write ≡ false
      differs = older_differs old spot_in write entry older index fresh at filled

      shared : pieces_overlap entry.piece (piece_at (place_of entry.piece) older) ≡ true
      shared =
          let size = index.disjoint.sized (place_of entry.piece) older at in
          overlap_from_parts entry.piece (piece_at (place_of entry.piece) older) refl (omega arith) (omega arith) (omega arith) (omega arith)

-- a new write taken out again
pub taken_back : (write : WriteId) (entry : Kept) (old mid new : WriteId → Option Kept) → old write ≡ None → ((q : WriteId) → mid q ≡ cond (is_at (write_order write) q) (Some entry) (old q)) → ((q : WriteId) → new q ≡ cond (is_at (write_order write) q) None (mid q)) → (q : WriteId) → new q ≡ old q
taken_back write entry old mid new fresh put out q =
    out q ∙ ap (λ (o : Option Kept). cond (is_at (write_order write) q) None o) (put q) ∙ by (is_at (write_order write) q) refl
  where
    by : (b : Bool) → is_at (write_order write) q ≡ b → cond b None (cond b (Some entry) (old q)) ≡ old q
    by true h = sym (ap old (sym (write_same write q h)) ∙ fresh)
    by false h = refl
