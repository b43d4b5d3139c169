-- Keys in order: what is left where a key goes in behind all others or one is taken out, and what a search among them finds.
use Rattle.std.proofs.Common.{◌≡◌, ℕ, zero, suc, ◌+◌, ◌<◌, Bor, Bool, true, false, not, cond, List, [], ◌∷◌, ◌++◌, length, Some, None, refl, ap, sym, ◌∙◌, arith}
use Rattle.std.specs.Prelude.{Option, filter, find, remove, slice_get, HoldsAt}
use Rattle.std.specs.Option.{option_copied}
use Rattle.std.specs.Slice.{IsItemAt}
use Rattle.std.specs.Cmp.{IsTotalOrder}
use Rattle.std.specs.List.{list_all, AllByRecursion}
use Rattle.std.specs.List.Sorted.{IsNonDecreasingBy, IsPartitionPoint, IsStrictlySortedBy}
use Rattle.std.specs.declared.cmp.Ordering.TheVariants.{Less, Equal, Greater}
use Rattle.std.specs.Ordering.{is_eq, is_lt, ordering_index, ordering_reverse}
use Rattle.std.specs.declared.cmp.Ordering.{Ordering}
use Rattle.std.proofs.lemmas.Bool.{and_parts}
use Rattle.std.proofs.lemmas.Cmp.{tied_back}
use Rattle.std.proofs.lemmas.List.Sorted.{searchable_from_sorted}
use Rattle.std.proofs.lemmas.Map.Keys.{sorted_head, sorted_tail, Less-from_sorted}
use Rattle.std.proofs.lemmas.Option.{slice_get-get_or, slice_get_past}

less_from_is_lt : (o : Ordering) → is_lt o ≡ true → o ≡ Less
less_from_is_lt Less h = refl
less_from_is_lt Equal h = cc
less_from_is_lt Greater h = cc

-- the first that a filter keeps is the first that passes its test
pub find-is : {X : Type 0} (p q : X → Bool) (same : (x : X) → p x ≡ q x) (xs : List X) → slice_get (filter p xs) 0 ≡ find q xs
find-is p q same [] = refl
find-is {X} p q same (x ∷ xs) =
    elim (p x) as (λ b. slice_get (cond b (x ∷ filter p xs) (filter p xs)) 0 ≡ cond b (Some x) (find q xs))
    [ true ↦ refl | false ↦ find-is p q same xs ]
    ∙ ap (λ b. cond b (Some x) (find q xs)) (same x)

-- what a look-up by place lends is the element at that place
pub item_shown : {X : Type 0} (item : Option (Bor X)) (xs : List X) (i : ℕ) → IsItemAt xs i item → option_copied item ≡ slice_get xs i
item_shown None xs i h = sym (slice_get_past xs i h.3)
item_shown (Some x) xs i h = ap Some (h.3.1 x.now) ∙ sym (slice_get-get_or xs i x.now h.3.0)

-- a key that comes before all others and before k still does where k goes behind them
before_last : {K : Type 0} (R : K → K → Ordering) (k x : K) (xs : List K) → AllByRecursion (λ y. R x y ≡ Less) xs → R x k ≡ Less → AllByRecursion (λ y. R x y ≡ Less) (xs ++ k ∷ [])
before_last R k x [] h e = (e, tt)
before_last R k x (y ∷ ys) h e = (h.0, before_last R k x ys h.1 e)

-- keys in order stay so where one that comes after them all goes behind them
pub sorted_push : {K : Type 0} (R : K → K → Ordering) (k : K) (ks : List K) → IsStrictlySortedBy R ks → list_all (λ q. is_lt (R q k)) ks ≡ true → IsStrictlySortedBy R (ks ++ k ∷ [])
unfolding IsStrictlySortedBy
sorted_push R k [] s h = (tt, tt)
sorted_push R k (x ∷ xs) s h =
    let parts = and_parts (is_lt (R x k)) (list_all (λ q. is_lt (R q k)) xs) h in
    (before_last R k x xs s.0 (less_from_is_lt (R x k) parts.0), sorted_push R k xs s.1 parts.1)

-- a list with no key is in order
pub sorted_none : {K : Type 0} (R : K → K → Ordering) → IsStrictlySortedBy R []
unfolding IsStrictlySortedBy
sorted_none R = tt

module _ {K : Type 0} {R : K → K → Ordering} (o : IsTotalOrder R) where
  -- the two keys the other way round
  turned : (x y : K) (a : Ordering) → R x y ≡ a → R y x ≡ ordering_reverse a
  turned x y a e = o.antisymm y x ∙ ap ordering_reverse e

  -- keys in order may be searched
  pub rising : (k : K) (ks : List K) → IsStrictlySortedBy R ks → IsNonDecreasingBy (λ y. ordering_index (R y k)) ks
  rising k ks s = searchable_from_sorted o (λ y. y) ks k (λ i d low high. ap is_lt (turned _ _ Less (Less-from_sorted R ks i (i + 1) d s (omega arith) high)))

  -- a key that comes before one that ties with k comes before k
  before_tied : (k x y : K) → R y k ≡ Equal → R x y ≡ Less → R k x ≡ Greater
  before_tied k x y tied before = o.congr k y x (tied_back o y k tied) ∙ turned x y Less before

  -- a key that comes after one that ties with k comes after k
  after_tied : (k x y : K) → R x k ≡ Equal → R x y ≡ Less → R k y ≡ Less
  after_tied k x y tied before = o.congr k x y (tied_back o x k tied) ∙ before

  -- the first key behind one that ties with k is the first after k
  behind_tied : (k x : K) (ys : List K) → R x k ≡ Equal → AllByRecursion (λ y. R x y ≡ Less) ys → slice_get ys 0 ≡ find (λ q. is_lt (R k q)) ys
  behind_tied k x [] tied h = refl
  behind_tied k x (y ∷ ys) tied h = sym (ap (λ a. cond (is_lt a) (Some y) (find (λ q. is_lt (R k q)) ys)) (after_tied k x y tied h.0))

  -- where a search found k, the first key after k stands one place on
  pub found_next : (k : K) (ks : List K) (i : ℕ) → IsStrictlySortedBy R ks → i < length ks → HoldsAt (λ y. R y k ≡ Equal) ks i → slice_get ks (suc i) ≡ find (λ q. is_lt (R k q)) ks
  found_next k [] i s within tied = absurd (omega arith)
  found_next k (x ∷ xs) zero s within tied =
      behind_tied k x xs (tied x) (sorted_head R x xs s)
      ∙ sym (ap (λ a. cond (is_lt a) (Some x) (find (λ q. is_lt (R k q)) xs)) (tied_back o x k (tied x)))
  found_next k (x ∷ xs) (suc i) s within tied =
      found_next k xs i (sorted_tail R x xs s) (omega arith) tied
      ∙ sym (ap (λ a. cond (is_lt a) (Some x) (find (λ q. is_lt (R k q)) xs)) (before_tied k x _ (tied x) (Less-from_sorted R (x ∷ xs) 0 (suc i) x s (omega arith) within)))

  -- where a search found none, the first key after k stands at the place that it answers
  pub missed_next : (k : K) (ks : List K) (i : ℕ) → IsPartitionPoint (λ y. R y k ≡ Less) (λ y. R y k ≡ Greater) ks i → slice_get ks i ≡ find (λ q. is_lt (R k q)) ks
  missed_next k [] i h = refl
  missed_next k (x ∷ xs) zero h = sym (ap (λ a. cond (is_lt a) (Some x) (find (λ q. is_lt (R k q)) xs)) (turned x k Greater (h.1 0 x (omega arith) (omega arith))))
  missed_next k (x ∷ xs) (suc i) h =
      missed_next k xs i ((λ j d low high. h.0 (suc j) d (omega arith) (omega arith)), (λ j d low high. h.1 (suc j) d (omega arith) (omega arith)))
      ∙ sym (ap (λ a. cond (is_lt a) (Some x) (find (λ q. is_lt (R k q)) xs)) (turned x k Less (h.0 0 x (omega arith) (omega arith))))

  module _ (k : K) (p : K → Bool) (same : (q : K) → is_eq (R k q) ≡ p q) where
    -- a key that does not tie with k stays where k is taken out
    kept : (a : Ordering) (x : K) (xs : List K) → R k x ≡ a → is_eq a ≡ false → filter (λ q. not (p q)) (x ∷ xs) ≡ x ∷ filter (λ q. not (p q)) xs
    kept a x xs e apart = ap (λ b. cond (not b) (x ∷ filter (λ q. not (p q)) xs) (filter (λ q. not (p q)) xs)) (sym (same x) ∙ ap is_eq e ∙ apart)

    -- so do all keys that come after one that ties with k
    all_kept : (x : K) (ys : List K) → R x k ≡ Equal → AllByRecursion (λ y. R x y ≡ Less) ys → filter (λ q. not (p q)) ys ≡ ys
    all_kept x [] tied h = refl
    all_kept x (y ∷ ys) tied h = kept Less y ys (after_tied k x y tied h.0) refl ∙ ap (λ (zs : List K). y ∷ zs) (all_kept x ys tied h.1)

    -- where a search found k, taking out what stands there takes out k wherever it stands
    pub found_removed : (ks : List K) (i : ℕ) → IsStrictlySortedBy R ks → i < length ks → HoldsAt (λ y. R y k ≡ Equal) ks i → remove ks i ≡ filter (λ q. not (p q)) ks
    found_removed [] i s within tied = absurd (omega arith)
    found_removed (x ∷ xs) zero s within tied =
        sym (all_kept x xs (tied x) (sorted_head R x xs s))
        ∙ ap (λ b. cond (not b) (x ∷ filter (λ q. not (p q)) xs) (filter (λ q. not (p q)) xs)) (sym (ap is_eq (tied_back o x k (tied x))) ∙ same x)
    found_removed (x ∷ xs) (suc i) s within tied =
        ap (λ (zs : List K). x ∷ zs) (found_removed xs i (sorted_tail R x xs s) (omega arith) tied)
        ∙ sym (kept Greater x xs (before_tied k x _ (tied x) (Less-from_sorted R (x ∷ xs) 0 (suc i) x s (omega arith) within)) refl)

    -- where a search found none, there is none to take out
    pub missed_kept : (ks : List K) (i : ℕ) → IsPartitionPoint (λ y. R y k ≡ Less) (λ y. R y k ≡ Greater) ks i → filter (λ q. not (p q)) ks ≡ ks
    missed_kept [] i h = refl
    missed_kept (x ∷ xs) zero h =
        kept Less x xs (turned x k Greater (h.1 0 x (omega arith) (omega arith))) refl
        ∙ ap (λ (zs : List K). x ∷ zs) (missed_kept xs zero ((λ j d low high. absurd (omega arith)), (λ j d low high. h.1 (suc j) d (omega arith) (omega arith))))
    missed_kept (x ∷ xs) (suc i) h =
        kept Greater x xs (turned x k Less (h.0 0 x (omega arith) (omega arith))) refl
        ∙ ap (λ (zs : List K). x ∷ zs) (missed_kept xs i ((λ j d low high. h.0 (suc j) d (omega arith) (omega arith)), (λ j d low high. h.1 (suc j) d (omega arith) (omega arith))))
