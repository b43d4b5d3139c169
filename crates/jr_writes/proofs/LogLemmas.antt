-- What look-ups find after a step of the log.
use Rattle.std.proofs.Common.{◌≡◌, Bool, cond, List, Option, Some, None, refl, ap, ◌∙◌}
use Rattle.std.proofs.lemmas.Cmp.{eq_by_cmp_equiv}
use Rattle.std.proofs.lemmas.Map.Entries.{lookup-filter-values, option_filter}
use Rattle.std.proofs.lemmas.Map.Keys.{IsDistinct-from_sorted}
use Rattle.std.specs.List.Sorted.{IsStrictlySortedBy}
use Rattle.std.specs.Map.{keys_of}
use Rattle.jr_model.specs.declared.blocks.Piece.{Piece}
use Rattle.jr_model.specs.declared.contents.Expected.{Expected}
use Rattle.jr_model.specs.declared.events.WriteId.{WriteId}
use Rattle.jr_model.specs.History.{same_write, write_order}
use Rattle.jr_model.proofs.Equality.{is_at-write_order, write_order_total, same_write_back}
use Rattle.jr_writes.specs.declared.logs.Logged.{Logged}
use Rattle.jr_writes.specs.LoggedWrites.{if_apart, lies_apart, logged, settled, unsettled}
use Rattle.jr_writes.proofs.EntryLemmas.{lookup-insert_entry}

filter_is : (piece : Piece) (o : Option Logged) → option_filter (lies_apart piece) o ≡ if_apart piece o
filter_is piece None = refl
filter_is piece (Some entry) = refl

module _ (es : List (WriteId × Logged)) (ordered : IsStrictlySortedBy write_order (keys_of es)) where
  -- after a piece was unsettled
  pub logged-unsettled : (piece : Piece) (other : WriteId) → logged (unsettled es piece) other ≡ if_apart piece (logged es other)
  logged-unsettled piece other =
      lookup-filter-values (eq_by_cmp_equiv write_order_total) (lies_apart piece) other es (IsDistinct-from_sorted write_order (keys_of es) ordered)
      ∙ filter_is piece (logged es other)

  -- after a write was settled
  pub logged-settled : (write : WriteId) (piece : Piece) (expected : Expected) → logged es write ≡ None → (other : WriteId) → logged (settled es write piece expected) other ≡ cond (same_write write other) (Some (record { piece = piece; expected = expected })) (if_apart piece (logged es other))
  logged-settled write piece expected fresh other =
      lookup-insert_entry write_order_total write (record { piece = piece; expected = expected }) (unsettled es piece)
      (logged-unsettled piece write ∙ ap (if_apart piece) fresh) other
      ∙ ap (λ (b : Bool). cond b (Some (record { piece = piece; expected = expected })) (logged (unsettled es piece) other)) (is_at-write_order other write ∙ same_write_back other write)
      ∙ ap (λ (o : Option Logged). cond (same_write write other) (Some (record { piece = piece; expected = expected })) o) (logged-unsettled piece other)
