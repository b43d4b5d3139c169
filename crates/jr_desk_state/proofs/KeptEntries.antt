-- Of a log the entries of some files alone: what a settled write and an unsettled piece make of them.
use Rattle.std.proofs.Common.{◌≡◌, ℕ, List, [], ◌∷◌, Bool, true, false, cond, not, refl, sym, ◌∙◌, ap}
use Rattle.std.specs.Prelude.{Some, None, filter}
use Rattle.std.specs.BTreeMap.{insert_entry, is_at}
use Rattle.std.specs.List.Sorted.{IsStrictlySortedBy}
use Rattle.std.specs.Map.{keys_of, lookup}
use Rattle.std.proofs.lemmas.Bool.{false≢true, false_from_ne_true}
use Rattle.std.proofs.lemmas.Cmp.{eq_by_cmp_equiv}
use Rattle.std.proofs.lemmas.Map.Entries.{lookup-filter-values, option_filter}
use Rattle.std.proofs.lemmas.Map.Keys.{IsDistinct-from_sorted}
use Rattle.jr_model.specs.declared.blocks.Piece.{Piece}
use Rattle.jr_model.specs.declared.contents.Expected.{Expected}
use Rattle.jr_model.specs.declared.events.WriteId.{WriteId}
use Rattle.jr_model.specs.History.{write_order}
use Rattle.jr_model.specs.Pieces.{pieces_overlap}
use Rattle.jr_model.proofs.Equality.{write_order_total}
use Rattle.jr_writes.specs.declared.logs.Logged.{Logged}
use Rattle.jr_writes.specs.LoggedWrites.{if_apart, lies_apart, logged, settled, unsettled}
use Rattle.jr_writes.specs.LogSteps.{unsettle}
use Rattle.jr_writes.proofs.EntryLemmas.{filter-insert_entry, filter-remove_entry, lookup-insert_entry, remove-insert_entry}
use Rattle.jr_writes.proofs.IndexLemmas.{write_itself}
use Rattle.jr_writes.proofs.LogLemmas.{logged-unsettled}
use Rattle.jr_writes.proofs.Overlaps.{overlap_parts}
use Rattle.jr_laws_log.proofs.OrderLemmas.{ordered_after}

module _ {X : Type 0} (p q : X → Bool) where
  -- two filters may change places
  filter_swapped : (xs : List X) → filter p (filter q xs) ≡ filter q (filter p xs)
  filter_swapped [] = refl
  filter_swapped (x ∷ xs) = by (filter_swapped xs) (p x) (q x) refl refl
    where
      by : filter p (filter q xs) ≡ filter q (filter p xs) → (a b : Bool) → p x ≡ a → q x ≡ b
          → filter p (cond b (x ∷ filter q xs) (filter q xs)) ≡ filter q (cond a (x ∷ filter p xs) (filter p xs))
      by rest true true mine its =
          ap (λ (c : Bool). cond c (x ∷ filter p (filter q xs)) (filter p (filter q xs))) mine
          ∙ ap (λ (ys : List X). x ∷ ys) rest
          ∙ sym (ap (λ (c : Bool). cond c (x ∷ filter q (filter p xs)) (filter q (filter p xs))) its)
      by rest true false mine its =
          rest ∙ sym (ap (λ (c : Bool). cond c (x ∷ filter q (filter p xs)) (filter q (filter p xs))) its)
      by rest false true mine its =
          ap (λ (c : Bool). cond c (x ∷ filter p (filter q xs)) (filter p (filter q xs))) mine ∙ rest
      by rest false false mine its = rest

  -- what the one keeps, the other does too
  filter_alone : ((x : X) → p x ≡ true → q x ≡ true) → (xs : List X) → filter p (filter q xs) ≡ filter p xs
  filter_alone both [] = refl
  filter_alone both (x ∷ xs) = by (filter_alone both xs) (q x) refl
    where
      dropped : q x ≡ false → p x ≡ false
      dropped not_its = false_from_ne_true (p x) (λ (mine : p x ≡ true). false≢true (sym not_its ∙ both x mine))

      by : filter p (filter q xs) ≡ filter p xs → (b : Bool) → q x ≡ b
          → filter p (cond b (x ∷ filter q xs) (filter q xs)) ≡ cond (p x) (x ∷ filter p xs) (filter p xs)
      by rest true its = ap (λ (ys : List X). cond (p x) (x ∷ ys) ys) rest
      by rest false its = rest ∙ sym (ap (λ (c : Bool). cond c (x ∷ filter p xs) (filter p xs)) (dropped its))

module _ (kept : ℕ → Bool) where
  abbrev keeps : WriteId × Logged → Bool
  keeps e = kept e.1.piece.file

  -- an entry of a file that is kept shares no byte with a piece of one that isn't
  lies_elsewhere : (piece : Piece) → kept piece.file ≡ false → (e : WriteId × Logged) → keeps e ≡ true → lies_apart piece e.1 ≡ true
  lies_elsewhere piece dropped e mine =
      ap not (false_from_ne_true (pieces_overlap piece e.1.piece) (λ (over : pieces_overlap piece e.1.piece ≡ true).
      false≢true (sym dropped ∙ ap kept (overlap_parts piece e.1.piece over).0 ∙ mine)))

  -- an unsettled piece of a file that is kept
  pub unsettled_kept : (es : List (WriteId × Logged)) (piece : Piece) → filter keeps (unsettled es piece) ≡ unsettled (filter keeps es) piece
  unsettled_kept es piece = filter_swapped keeps (λ (e : WriteId × Logged). lies_apart piece e.1) es

  -- and of one that isn't
  pub unsettled_dropped : (es : List (WriteId × Logged)) (piece : Piece) → kept piece.file ≡ false
      → filter keeps (unsettled es piece) ≡ filter keeps es
  unsettled_dropped es piece dropped =
      filter_alone keeps (λ (e : WriteId × Logged). lies_apart piece e.1) (lies_elsewhere piece dropped) es

  module _ (es : List (WriteId × Logged)) (ordered : IsStrictlySortedBy write_order (keys_of es)) where
    -- what is looked up among the entries that are kept
    pub logged_kept : (write : WriteId) → logged (filter keeps es) write ≡ option_filter (λ (entry : Logged). kept entry.piece.file) (logged es write)
    logged_kept write =
        lookup-filter-values (eq_by_cmp_equiv write_order_total) (λ (entry : Logged). kept entry.piece.file) write es
        (IsDistinct-from_sorted write_order (keys_of es) ordered)

    module _ (write : WriteId) (piece : Piece) (expected : Expected) (fresh : logged es write ≡ None) where
      abbrev entry : Logged
      entry = record { piece = piece; expected = expected }

      fresh_still : logged (unsettled es piece) write ≡ None
      fresh_still = logged-unsettled es ordered piece write ∙ ap (if_apart piece) fresh

      -- a write of a file that is kept
      pub settled_kept : kept piece.file ≡ true → filter keeps (settled es write piece expected) ≡ settled (filter keeps es) write piece expected
      settled_kept mine =
          filter-insert_entry write_order_total write entry keeps keeps mine (λ e apart. refl) (unsettled es piece)
          (ordered_after (unsettle piece ∷ []) es ordered) fresh_still
          ∙ ap (λ (fs : List (WriteId × Logged)). insert_entry write_order fs write entry) (unsettled_kept es piece)

      -- and of one that isn't
      pub settled_dropped : kept piece.file ≡ false → filter keeps (settled es write piece expected) ≡ filter keeps es
      settled_dropped dropped =
          let rest = unsettled es piece in
          let at = is_at (write_order write) in
          let found : lookup at (insert_entry write_order rest write entry) ≡ Some entry =
          lookup-insert_entry write_order_total write entry rest fresh_still write
          ∙ ap (λ (c : Bool). cond c (Some entry) (lookup at rest)) (write_itself write) in
          sym (filter-remove_entry keeps at (insert_entry write_order rest write entry) entry found (λ other its. dropped))
          ∙ ap (filter keeps) (remove-insert_entry write_order_total write entry rest fresh_still)
          ∙ unsettled_dropped es piece dropped
