-- Entries of a map in the order of the keys: what an insertion, a removal and a filter make of one another.
use Rattle.std.proofs.Common.{◌≡◌, Bool, true, false, cond, List, [], ◌∷◌, Option, Some, None, refl, sym, ap, ◌∙◌}
use Rattle.std.proofs.lemmas.Cmp.{tied_itself}
use Rattle.std.proofs.lemmas.List.Elements.{All-head, All-tail}
use Rattle.std.proofs.lemmas.Option.{none-some}
use Rattle.std.specs.BTreeMap.{insert_entry, is_at}
use Rattle.std.specs.Cmp.{IsTotalOrder}
use Rattle.std.specs.declared.cmp.Ordering.{Ordering}
use Rattle.std.specs.declared.cmp.Ordering.TheVariants.{Less, Equal, Greater}
use Rattle.std.specs.List.{All, AllByRecursion, filter}
use Rattle.std.specs.List.Sorted.{IsStrictlySortedBy}
use Rattle.std.specs.Map.{keys_of, lookup, remove_entry}
use Rattle.std.specs.Ordering.{is_eq, match_ordering}

module _ {K X : Type 0} where
  -- a filter that all pass
  pub filter_all : (p : K × X → Bool) (es : List (K × X)) → All (λ e. p e ≡ true) es → filter p es ≡ es
  filter_all p [] all = refl
  filter_all p (e ∷ es) all =
      ap (λ (b : Bool). cond b (e ∷ filter p es) (filter p es)) (All-head (λ x. p x ≡ true) e es all)
      ∙ ap (λ (fs : List (K × X)). e ∷ fs) (filter_all p es (All-tail (λ x. p x ≡ true) e es all))

  -- to take out what a filter drops
  pub filter-remove_entry : (p : K × X → Bool) (test : K → Bool) (es : List (K × X)) (v : X) → lookup test es ≡ Some v → ((k : K) → test k ≡ true → p (k, v) ≡ false) → filter p (remove_entry test es) ≡ filter p es
  filter-remove_entry p test [] v at drops = refl
  filter-remove_entry p test (e ∷ es) v at drops = by (λ found. filter-remove_entry p test es v found drops) (test e.0) refl at
    where
      by : (lookup test es ≡ Some v → filter p (remove_entry test es) ≡ filter p es) → (b : Bool) → test e.0 ≡ b → cond b (Some e.1) (lookup test es) ≡ Some v → filter p (cond b es (e ∷ remove_entry test es)) ≡ cond (p e) (e ∷ filter p es) (filter p es)
      by rest true here found =
          let same : e.1 ≡ v = cc in
          let dropped : p e ≡ false = ap (λ (x : X). p (e.0, x)) same ∙ drops e.0 here in
          sym (ap (λ (b : Bool). cond b (e ∷ filter p es) (filter p es)) dropped)
      by rest false here found = ap (λ (fs : List (K × X)). cond (p e) (e ∷ fs) fs) (rest found)

  module _ {cmp : K → K → Ordering} (o : IsTotalOrder cmp) (k : K) (v : X) where
    -- it is not the first
    apart_from_head : (e : K × X) (es : List (K × X)) → lookup (is_at (cmp k)) (e ∷ es) ≡ None → cmp k e.0 ≡ Equal → ⊥
    apart_from_head e es none same =
        none-some e.1 (sym none ∙ ap (λ (r : Ordering). cond (is_eq r) (Some e.1) (lookup (is_at (cmp k)) es)) same)

    -- nor among the others
    absent_after : (e : K × X) (es : List (K × X)) → lookup (is_at (cmp k)) (e ∷ es) ≡ None → lookup (is_at (cmp k)) es ≡ None
    absent_after e es none = by (is_at (cmp k) e.0) none
      where
        by : (b : Bool) → cond b (Some e.1) (lookup (is_at (cmp k)) es) ≡ None → lookup (is_at (cmp k)) es ≡ None
        by true h = absurd (none-some e.1 (sym h))
        by false h = h

    -- what is put in and taken out again
    pub remove-insert_entry : (es : List (K × X)) → lookup (is_at (cmp k)) es ≡ None → remove_entry (is_at (cmp k)) (insert_entry cmp es k v) ≡ es
    remove-insert_entry [] none = ap (λ (r : Ordering). cond (is_eq r) [] ((k, v) ∷ [])) (tied_itself o k)
    remove-insert_entry (e ∷ es) none = by (remove-insert_entry es (absent_after e es none)) (cmp k e.0) refl
      where
        by : remove_entry (is_at (cmp k)) (insert_entry cmp es k v) ≡ es → (r : Ordering) → cmp k e.0 ≡ r → remove_entry (is_at (cmp k)) (match_ordering r ((k, v) ∷ e ∷ es) ((e.0, v) ∷ es) (e ∷ insert_entry cmp es k v)) ≡ e ∷ es
        by rest Less h = ap (λ (r : Ordering). cond (is_eq r) (e ∷ es) ((k, v) ∷ remove_entry (is_at (cmp k)) (e ∷ es))) (tied_itself o k)
        by rest Equal h = absurd (apart_from_head e es none h)
        by rest Greater h =
            ap (λ (r : Ordering). cond (is_eq r) (insert_entry cmp es k v) (e ∷ remove_entry (is_at (cmp k)) (insert_entry cmp es k v))) h
            ∙ ap (λ (fs : List (K × X)). e ∷ fs) rest

    -- what goes before all
    pub insert_below : (es : List (K × X)) → AllByRecursion (λ e. cmp k e.0 ≡ Less) es → insert_entry cmp es k v ≡ (k, v) ∷ es
    insert_below [] all = refl
    insert_below (e ∷ es) all = ap (λ (r : Ordering). match_ordering r ((k, v) ∷ e ∷ es) ((e.0, v) ∷ es) (e ∷ insert_entry cmp es k v)) all.0

    -- a key below the first is below all
    below_all : (x : K) (es : List (K × X)) → cmp k x ≡ Less → AllByRecursion (λ y. cmp x y ≡ Less) (keys_of es) → AllByRecursion (λ e. cmp k e.0 ≡ Less) es
    below_all x [] less all = tt
    below_all x (e ∷ es) less all = (o.trans k x e.0 less all.0, below_all x es less all.1)

    All_kept : (P : K × X → Type 0) (r : K × X → Bool) (es : List (K × X)) → AllByRecursion P es → AllByRecursion P (filter r es)
    All_kept P r [] all = tt
    All_kept P r (e ∷ es) all = by (All_kept P r es all.1) (r e)
      where
        by : AllByRecursion P (filter r es) → (b : Bool) → AllByRecursion P (cond b (e ∷ filter r es) (filter r es))
        by rest true = (all.0, rest)
        by rest false = rest

    module _ (p r : K × X → Bool) (mine : p (k, v) ≡ true) (others : (e : K × X) → (cmp k e.0 ≡ Equal → ⊥) → p e ≡ r e) where
      same_others : (es : List (K × X)) → lookup (is_at (cmp k)) es ≡ None → filter p es ≡ filter r es
      same_others [] none = refl
      same_others (e ∷ es) none =
          ap (λ (b : Bool). cond b (e ∷ filter p es) (filter p es)) (others e (apart_from_head e es none))
          ∙ ap (λ (fs : List (K × X)). cond (r e) (e ∷ fs) fs) (same_others es (absent_after e es none))

      -- a filter that keeps the new entry
      pub filter-insert_entry : (es : List (K × X)) → IsStrictlySortedBy cmp (keys_of es) → lookup (is_at (cmp k)) es ≡ None → filter p (insert_entry cmp es k v) ≡ insert_entry cmp (filter r es) k v
      unfolding IsStrictlySortedBy
      filter-insert_entry [] sorted none = ap (λ (b : Bool). cond b ((k, v) ∷ []) []) mine
      filter-insert_entry (e ∷ es) sorted none = by (filter-insert_entry es sorted.1 (absent_after e es none)) (cmp k e.0) refl
        where
          kept : (b : Bool) → cmp k e.0 ≡ Greater → cond b (e ∷ insert_entry cmp (filter r es) k v) (insert_entry cmp (filter r es) k v) ≡ insert_entry cmp (cond b (e ∷ filter r es) (filter r es)) k v
          kept true h = sym (ap (λ (x : Ordering). match_ordering x ((k, v) ∷ e ∷ filter r es) ((e.0, v) ∷ filter r es) (e ∷ insert_entry cmp (filter r es) k v)) h)
          kept false h = refl

          by : filter p (insert_entry cmp es k v) ≡ insert_entry cmp (filter r es) k v → (x : Ordering) → cmp k e.0 ≡ x → filter p (match_ordering x ((k, v) ∷ e ∷ es) ((e.0, v) ∷ es) (e ∷ insert_entry cmp es k v)) ≡ insert_entry cmp (filter r (e ∷ es)) k v
          by rest Less h =
              ap (λ (b : Bool). cond b ((k, v) ∷ filter p (e ∷ es)) (filter p (e ∷ es))) mine
              ∙ ap (λ (fs : List (K × X)). (k, v) ∷ fs) (same_others (e ∷ es) none)
              ∙ sym (insert_below (filter r (e ∷ es)) (All_kept (λ f. cmp k f.0 ≡ Less) r (e ∷ es) (h, below_all e.0 es h sorted.0)))
          by rest Equal h = absurd (apart_from_head e es none h)
          by rest Greater h =
              ap (λ (b : Bool). cond b (e ∷ filter p (insert_entry cmp es k v)) (filter p (insert_entry cmp es k v))) (others e (apart_from_head e es none))
              ∙ ap (λ (fs : List (K × X)). cond (r e) (e ∷ fs) fs) rest
              ∙ kept (r e) h

    -- what a look-up finds after it
    pub lookup-insert_entry : (es : List (K × X)) → lookup (is_at (cmp k)) es ≡ None → (q : K) → lookup (is_at (cmp q)) (insert_entry cmp es k v) ≡ cond (is_at (cmp q) k) (Some v) (lookup (is_at (cmp q)) es)
    lookup-insert_entry [] none q = refl
    lookup-insert_entry (e ∷ es) none q = by (lookup-insert_entry es (absent_after e es none) q) (cmp k e.0) refl
      where
        turned : (b c : Bool) → (b ≡ true → c ≡ true → ⊥) → cond c (Some e.1) (cond b (Some v) (lookup (is_at (cmp q)) es)) ≡ cond b (Some v) (cond c (Some e.1) (lookup (is_at (cmp q)) es))
        turned true true h = absurd (h refl refl)
        turned true false h = refl
        turned false true h = refl
        turned false false h = refl

        equal : (x : K) → is_at (cmp q) x ≡ true → cmp q x ≡ Equal
        equal x h = is_equal (cmp q x) h
          where
            is_equal : (r : Ordering) → is_eq r ≡ true → r ≡ Equal
            is_equal Less h = cc
            is_equal Equal h = refl
            is_equal Greater h = cc

        by : lookup (is_at (cmp q)) (insert_entry cmp es k v) ≡ cond (is_at (cmp q) k) (Some v) (lookup (is_at (cmp q)) es) → (x : Ordering) → cmp k e.0 ≡ x → lookup (is_at (cmp q)) (match_ordering x ((k, v) ∷ e ∷ es) ((e.0, v) ∷ es) (e ∷ insert_entry cmp es k v)) ≡ cond (is_at (cmp q) k) (Some v) (lookup (is_at (cmp q)) (e ∷ es))
        by rest Less h = refl
        by rest Equal h = absurd (apart_from_head e es none h)
        by rest Greater h =
            ap (λ (f : Option X). cond (is_at (cmp q) e.0) (Some e.1) f) rest
            ∙ turned (is_at (cmp q) k) (is_at (cmp q) e.0)
            (λ x y. apart_from_head e es none (sym (o.congr q k e.0 (equal k x)) ∙ equal e.0 y))
