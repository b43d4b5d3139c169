-- The entries of a log are in the order of their writes.
use Rattle.std.proofs.Common.{◌≡◌, Bool, true, false, cond, List, [], ◌∷◌, refl, ap, ◌∙◌}
use Rattle.std.specs.Prelude.{filter, fold}
use Rattle.std.specs.BTreeMap.{insert_entry}
use Rattle.std.specs.Cmp.{IsTotalOrder}
use Rattle.std.specs.declared.cmp.Ordering.{Ordering}
use Rattle.std.specs.declared.cmp.Ordering.TheVariants.{Less, Equal, Greater}
use Rattle.std.specs.List.{AllByRecursion}
use Rattle.std.specs.List.Sorted.{IsStrictlySortedBy}
use Rattle.std.specs.Map.{keys_of}
use Rattle.std.specs.Ordering.{match_ordering, ordering_reverse}
use Rattle.jr_model.specs.declared.events.WriteId.{WriteId}
use Rattle.jr_model.specs.History.{write_order}
use Rattle.jr_model.proofs.Equality.{write_order_total}
use Rattle.jr_writes.specs.declared.logs.Logged.{Logged}
use Rattle.jr_writes.specs.LoggedWrites.{lies_apart, unsettled, settled}
use Rattle.jr_writes.specs.LogSteps.{LogStep, settle, unsettle, after_step, log_of}

module _ {K X : Type 0} where
  -- what holds of all keys holds of those that a filter keeps
  filter_all : (P : K → Type 0) (p : K × X → Bool) (es : List (K × X))
      → AllByRecursion P (keys_of es)
      → AllByRecursion P (keys_of (filter p es))
  filter_all P p [] all = tt
  filter_all P p (e ∷ es) all = by (p e) (filter_all P p es all.1)
    where
      by : (b : Bool) → AllByRecursion P (keys_of (filter p es)) → AllByRecursion P (keys_of (cond b (e ∷ filter p es) (filter p es)))
      by true rest = (all.0, rest)
      by false rest = rest

  -- a filter keeps the order
  pub sorted_filter : (cmp : K → K → Ordering) (p : K × X → Bool) (es : List (K × X))
      → IsStrictlySortedBy cmp (keys_of es)
      → IsStrictlySortedBy cmp (keys_of (filter p es))
  unfolding IsStrictlySortedBy
  sorted_filter cmp p [] sorted = tt
  sorted_filter cmp p (e ∷ es) sorted = by (p e) (sorted_filter cmp p es sorted.1)
    where
      by : (b : Bool)
          → IsStrictlySortedBy cmp (keys_of (filter p es))
          → IsStrictlySortedBy cmp (keys_of (cond b (e ∷ filter p es) (filter p es)))
      by true rest = (filter_all (λ y. cmp e.0 y ≡ Less) p es sorted.0, rest)
      by false rest = rest

  module _ {cmp : K → K → Ordering} (o : IsTotalOrder cmp) (k : K) (v : X) where
    turned : (x : K) → cmp k x ≡ Greater → cmp x k ≡ Less
    turned x h = o.antisymm x k ∙ ap ordering_reverse h

    -- a key below the first is below all
    below_all : (x : K) (es : List (K × X))
        → cmp k x ≡ Less
        → AllByRecursion (λ y. cmp x y ≡ Less) (keys_of es)
        → AllByRecursion (λ y. cmp k y ≡ Less) (keys_of es)
    below_all x [] less all = tt
    below_all x (e ∷ es) less all = (o.trans k x e.0 less all.0, below_all x es less all.1)

    put_all : (P : K → Type 0) (es : List (K × X))
        → P k
        → AllByRecursion P (keys_of es)
        → AllByRecursion P (keys_of (insert_entry cmp es k v))
    put_all P [] here all = (here, tt)
    put_all P (e ∷ es) here all = by (cmp k e.0) (put_all P es here all.1)
      where
        by : (r : Ordering)
            → AllByRecursion P (keys_of (insert_entry cmp es k v))
            → AllByRecursion P (keys_of (match_ordering r ((k, v) ∷ e ∷ es) ((e.0, v) ∷ es) (e ∷ insert_entry cmp es k v)))
        by Less rest = (here, all)
        by Equal rest = all
        by Greater rest = (all.0, rest)

    -- an insertion keeps the order
    pub sorted_insert : (es : List (K × X))
        → IsStrictlySortedBy cmp (keys_of es)
        → IsStrictlySortedBy cmp (keys_of (insert_entry cmp es k v))
    unfolding IsStrictlySortedBy
    sorted_insert [] sorted = (tt, tt)
    sorted_insert (e ∷ es) sorted = by (sorted_insert es sorted.1) (cmp k e.0) refl
      where
        by : IsStrictlySortedBy cmp (keys_of (insert_entry cmp es k v))
            → (r : Ordering)
            → cmp k e.0 ≡ r
            → IsStrictlySortedBy cmp (keys_of (match_ordering r ((k, v) ∷ e ∷ es) ((e.0, v) ∷ es) (e ∷ insert_entry cmp es k v)))
        by rest Less h = ((h, below_all e.0 es h sorted.0), sorted)
        by rest Equal h = sorted
        by rest Greater h = (put_all (λ y. cmp e.0 y ≡ Less) es (turned e.0 h) sorted.0, rest)

-- each step keeps the entries in order
pub ordered_after : (steps : List LogStep) (es : List (WriteId × Logged))
    → IsStrictlySortedBy write_order (keys_of es)
    → IsStrictlySortedBy write_order (keys_of (fold after_step es steps))
ordered_after [] es sorted = sorted
ordered_after (settle write piece expected ∷ steps) es sorted =
    ordered_after steps (settled es write piece expected)
    (sorted_insert write_order_total write (record { piece = piece; expected = expected }) (unsettled es piece)
    (sorted_filter write_order (λ (e : WriteId × Logged). lies_apart piece e.1) es sorted))
ordered_after (unsettle piece ∷ steps) es sorted =
    ordered_after steps (unsettled es piece) (sorted_filter write_order (λ (e : WriteId × Logged). lies_apart piece e.1) es sorted)

none_sorted : IsStrictlySortedBy write_order (keys_of {X = Logged} [])
unfolding IsStrictlySortedBy
none_sorted = tt

-- so they are in any log
pub ordered_log : (steps : List LogStep) → IsStrictlySortedBy write_order (keys_of (log_of steps))
ordered_log steps = ordered_after steps [] none_sorted
