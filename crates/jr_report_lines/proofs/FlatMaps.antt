-- Lists that flat_map makes of numbered items: their order, and what one element more in one of the parts makes of them.
use Rattle.std.proofs.Common.{◌≡◌, ℕ, zero, suc, ◌+◌, ◌<◌, List, [], ◌∷◌, ◌++◌, refl, sym, ◌∙◌, ap, subst, arith, IsPermutation}
use Rattle.std.specs.Prelude.{Option, Some, None, slice_get, flat_map, filter_map}
use Rattle.std.specs.declared.cmp.Ordering.{Ordering}
use Rattle.std.specs.declared.cmp.Ordering.TheVariants.{Less}
use Rattle.std.specs.List.{AllByRecursion, cons_option, range_with_len}
use Rattle.std.specs.List.Sorted.{IsStrictlySortedBy}
use Rattle.std.proofs.lemmas.List.Sorted.{IsPermutation-append_left, IsPermutation-append_right, IsPermutation-middle, IsPermutation-trans}
use Rattle.std.proofs.lemmas.Option.{same_Some}

-- what holds of all of a list

pub all_weaker : {X : Type 0} (P Q : X → Type 0) → ((x : X) → P x → Q x) → (xs : List X) → AllByRecursion P xs → AllByRecursion Q xs
all_weaker P Q so [] all = tt
all_weaker P Q so (x ∷ xs) all = (so x all.0, all_weaker P Q so xs all.1)

pub all_append : {X : Type 0} (P : X → Type 0) (xs ys : List X) → AllByRecursion P xs → AllByRecursion P ys → AllByRecursion P (xs ++ ys)
all_append P [] ys front back = back
all_append P (x ∷ xs) ys front back = (front.0, all_append P xs ys front.1 back)

pub all_flat_map : {X Y : Type 0} (P : Y → Type 0) (f : X → List Y) → ((x : X) → AllByRecursion P (f x)) → (xs : List X)
    → AllByRecursion P (flat_map f xs)
all_flat_map P f each [] = tt
all_flat_map P f each (x ∷ xs) = all_append P (f x) (flat_map f xs) (each x) (all_flat_map P f each xs)

all_cons_option : {Y : Type 0} (P : Y → Type 0) (o : Option Y) (ys : List Y) → ((y : Y) → o ≡ Some y → P y) → AllByRecursion P ys
    → AllByRecursion P (cons_option o ys)
all_cons_option P None ys one all = all
all_cons_option P (Some y) ys one all = (one y refl, all)

pub all_filter_map : {X Y : Type 0} (P : Y → Type 0) (f : X → Option Y) → ((x : X) (y : Y) → f x ≡ Some y → P y) → (xs : List X)
    → AllByRecursion P (filter_map f xs)
all_filter_map P f each [] = tt
all_filter_map P f each (x ∷ xs) = all_cons_option P (f x) (filter_map f xs) (each x) (all_filter_map P f each xs)

pub flat_map_same : {X Y : Type 0} (f g : X → List Y) → ((x : X) → g x ≡ f x) → (xs : List X) → flat_map g xs ≡ flat_map f xs
flat_map_same f g same [] = refl
flat_map_same {X} {Y} f g same (x ∷ xs) =
    ap (λ (ys : List Y). ys ++ flat_map g xs) (same x) ∙ ap (λ (ys : List Y). f x ++ ys) (flat_map_same f g same xs)

-- the items are numbered from k on
abbrev pub NumberedFrom : {X : Type 0} → (X → ℕ) → ℕ → List X → Type 0
NumberedFrom n k [] = Unit {0}
NumberedFrom n k (x ∷ xs) = (n x ≡ k) × NumberedFrom n (suc k) xs

pub numbered_from : {X : Type 0} (n : X → ℕ) (k : ℕ) (xs : List X) → ((i : ℕ) (x : X) → slice_get xs i ≡ Some x → n x ≡ k + i)
    → NumberedFrom n k xs
numbered_from n k [] at = tt
numbered_from n k (x ∷ xs) at =
    let first : n x ≡ k + 0 = at zero x refl in
    (omega (arith, first), numbered_from n (suc k) xs (λ i y h. let next : n y ≡ k + suc i = at (suc i) y h in omega (arith, next)))

pub number_at : {X : Type 0} (n : X → ℕ) (k : ℕ) (xs : List X) (i : ℕ) (x : X) → NumberedFrom n k xs → slice_get xs i ≡ Some x
    → n x ≡ k + i
number_at n k [] i x numbered at = cc
number_at n k (y ∷ xs) zero x numbered at =
    let same : n y ≡ n x = ap n (same_Some y x at) in
    let first : n y ≡ k = numbered.0 in
    omega (arith, same, first)
number_at n k (y ∷ xs) (suc i) x numbered at =
    let next : n x ≡ suc k + i = number_at n (suc k) xs i x numbered.1 at in
    omega (arith, next)

pub numbered_range : (a b n : ℕ) → a ≡ b → NumberedFrom (λ (p : ℕ). p) b (range_with_len a n)
numbered_range a b zero same = tt
numbered_range a b (suc n) same = (same, numbered_range (a + 1) (suc b) n (omega (arith, same)))

-- the order of what is made

sorted_append : {Y : Type 0} (cmp : Y → Y → Ordering) (xs ys : List Y)
    → IsStrictlySortedBy cmp xs
    → IsStrictlySortedBy cmp ys
    → AllByRecursion (λ x. AllByRecursion (λ y. cmp x y ≡ Less) ys) xs
    → IsStrictlySortedBy cmp (xs ++ ys)
unfolding IsStrictlySortedBy
sorted_append cmp [] ys front back between = back
sorted_append cmp (x ∷ xs) ys front back between =
    (all_append (λ y. cmp x y ≡ Less) xs ys front.0 between.0, sorted_append cmp xs ys front.1 back between.1)

-- what is made of an item has the item's number in the sense of P, and is sorted; and a lower number goes first
module _ {X Y : Type 0} (cmp : Y → Y → Ordering) (n : X → ℕ) (f : X → List Y) (P : ℕ → Y → Type 0)
    (each : (x : X) → AllByRecursion (P (n x)) (f x))
    (sorted : (x : X) → IsStrictlySortedBy cmp (f x))
    (less : (j k : ℕ) (y z : Y) → j < k → P j y → P k z → cmp y z ≡ Less) where
  above : (j k : ℕ) (y : Y) (xs : List X) → j < k → P j y → NumberedFrom n k xs → AllByRecursion (λ z. cmp y z ≡ Less) (flat_map f xs)
  above j k y [] below own numbered = tt
  above j k y (x ∷ xs) below own numbered =
      let first : n x ≡ k = numbered.0 in
      all_append (λ z. cmp y z ≡ Less) (f x) (flat_map f xs)
      (all_weaker (P (n x)) (λ z. cmp y z ≡ Less) (λ z there. less j (n x) y z (omega (arith, first, below)) own there) (f x) (each x))
      (above j (suc k) y xs (omega (arith, below)) own numbered.1)

  pub sorted_flat_map : (k : ℕ) (xs : List X) → NumberedFrom n k xs → IsStrictlySortedBy cmp (flat_map f xs)
  unfolding IsStrictlySortedBy
  sorted_flat_map k [] numbered = tt
  sorted_flat_map k (x ∷ xs) numbered =
      let first : n x ≡ k = numbered.0 in
      sorted_append cmp (f x) (flat_map f xs) (sorted x) (sorted_flat_map (suc k) xs numbered.1)
      (all_weaker (P (n x)) (λ y. AllByRecursion (λ z. cmp y z ≡ Less) (flat_map f xs))
      (λ y own. above (n x) (suc k) y xs (omega (arith, first)) own numbered.1) (f x) (each x))

-- g makes of each item what f makes, and of the item of number j one element more
module _ {X Y : Type 0} (n : X → ℕ) (f g : X → List Y) (m : Y) (j : ℕ) (same : (x : X) → (n x ≡ j → ⊥) → g x ≡ f x) where
  later : (k : ℕ) (xs : List X) → j < k → NumberedFrom n k xs → flat_map g xs ≡ flat_map f xs
  later k [] below numbered = refl
  later k (x ∷ xs) below numbered =
      let first : n x ≡ k = numbered.0 in
      ap (λ (ys : List Y). ys ++ flat_map g xs) (same x (λ is. omega (arith, is, first, below)))
      ∙ ap (λ (ys : List Y). f x ++ ys) (later (suc k) xs (omega (arith, below)) numbered.1)

  pub one_more : (k : ℕ) (xs : List X) (i : ℕ) (x : X) → NumberedFrom n k xs → slice_get xs i ≡ Some x → n x ≡ j
      → IsPermutation (g x) (m ∷ f x) → IsPermutation (flat_map g xs) (m ∷ flat_map f xs)
  one_more k [] i x numbered at number more = cc
  one_more k (y ∷ xs) zero x numbered at number more =
      let is : y ≡ x = same_Some y x at in
      let first : n y ≡ k = numbered.0 in
      let place : n y ≡ n x = ap n is in
      let here : IsPermutation (g y) (m ∷ f y) = subst (λ (v : X). IsPermutation (g v) (m ∷ f v)) (sym is) more in
      let stays : flat_map g xs ≡ flat_map f xs = later (suc k) xs (omega (arith, number, place, first)) numbered.1 in
      subst (λ (ys : List Y). IsPermutation (g y ++ ys) (m ∷ (f y ++ flat_map f xs))) (sym stays)
      (IsPermutation-append_left (flat_map f xs) (g y) (m ∷ f y) here)
  one_more k (y ∷ xs) (suc i) x numbered at number more =
      let first : n y ≡ k = numbered.0 in
      let place : n x ≡ suc k + i = number_at n (suc k) xs i x numbered.1 at in
      let rest : IsPermutation (flat_map g xs) (m ∷ flat_map f xs) = one_more (suc k) xs i x numbered.1 at number more in
      let stays : g y ≡ f y = same y (λ is. omega (arith, is, first, place, number)) in
      subst (λ (ys : List Y). IsPermutation (ys ++ flat_map g xs) (m ∷ (f y ++ flat_map f xs))) (sym stays)
      (IsPermutation-trans (f y ++ flat_map g xs) (f y ++ m ∷ flat_map f xs) (m ∷ (f y ++ flat_map f xs))
      (IsPermutation-append_right (f y) (flat_map g xs) (m ∷ flat_map f xs) rest)
      (IsPermutation-middle (f y) m (flat_map f xs)))
