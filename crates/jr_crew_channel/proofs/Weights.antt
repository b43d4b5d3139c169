-- Two lists that weigh the same, however their elements are weighed, are one list in two orders.
use Rattle.std.proofs.Common.{◌≡◌, ℕ, zero, suc, ◌+◌, ◌<◌, Bool, true, false, true≢false, cond, eqb, eqb-true, eq-eqb, List, [], ◌∷◌, ◌++◌, sum_by, flat_map, set, refl, sym, ap, ◌∙◌, subst, arith, IsPermutation}
use Rattle.std.specs.Coded.{Coded}
use Rattle.std.proofs.lemmas.List.Sums.{sum_by-cons, sum_by-append}
use Rattle.std.proofs.lemmas.List.Sorted.{IsPermutation-refl, IsPermutation-cons, IsPermutation-sym, IsPermutation-trans, IsPermutation-middle}
use base.Stored.{Gv, gnil, gnum, gcons}
use mathlib.Core.Option.{some, some-injective, some-ne-none}
use lib.ListN.{get_elem?}

abbrev same : Gv → Gv → Bool
same gnil gnil = true
same gnil (gnum n) = false
same gnil (gcons c d) = false
same (gnum m) gnil = false
same (gnum m) (gnum n) = eqb m n
same (gnum m) (gcons c d) = false
same (gcons a b) gnil = false
same (gcons a b) (gnum n) = false
same (gcons a b) (gcons c d) = cond (same a c) (same b d) false

same_itself : (g : Gv) → same g g ≡ true
same_itself gnil = refl
same_itself (gnum n) = eq-eqb n n refl
same_itself (gcons a b) = rw (same_itself a) (same_itself b)

both_same : (x y : Bool) → cond x y false ≡ true → (x ≡ true) × (y ≡ true)
both_same true y e = (refl, e)
both_same false y e = absurd (true≢false (sym e))

is_same : (g k : Gv) → same g k ≡ true → g ≡ k
is_same gnil gnil e = refl
is_same gnil (gnum n) e = absurd (true≢false (sym e))
is_same gnil (gcons c d) e = absurd (true≢false (sym e))
is_same (gnum m) gnil e = absurd (true≢false (sym e))
is_same (gnum m) (gnum n) e = ap gnum (eqb-true m n e)
is_same (gnum m) (gcons c d) e = absurd (true≢false (sym e))
is_same (gcons a b) gnil e = absurd (true≢false (sym e))
is_same (gcons a b) (gnum n) e = absurd (true≢false (sym e))
is_same (gcons a b) (gcons c d) e =
    let both = both_same (same a c) (same b d) e in
    ap (λ g. gcons g b) (is_same a c both.0) ∙ ap (λ g. gcons c g) (is_same b d both.1)

module _ {X : Type 0} (coded : Coded X) where
  -- 1 for x, and 0 for all else
  abbrev one : X → X → ℕ
  one x y = cond (same (coded.code x) (coded.code y)) 1 0

  one_itself : (x : X) → one x x ≡ 1
  one_itself x = rw (same_itself (coded.code x)) refl

  -- where one weighs something in a list, it stands there
  abbrev Stands : X → List X → Type 0
  Stands x ys = (front : List X) × (back : List X) × (ys ≡ front ++ x ∷ back)

  here_or_behind : (x y : X) (ys : List X) (b : Bool) → same (coded.code x) (coded.code y) ≡ b → (0 < sum_by (one x) ys → Stands x ys) → 0 < cond b 1 0 + sum_by (one x) ys → Stands x (y ∷ ys)
  here_or_behind x y ys true e behind h = ([], ys, ap (λ z. z ∷ ys) (sym (coded.inj x y (is_same (coded.code x) (coded.code y) e))))
  here_or_behind x y ys false e behind h = let r = behind (omega arith) in (y ∷ r.0, r.1, ap (λ l. y ∷ l) r.2)

  stands : (x : X) (ys : List X) → 0 < sum_by (one x) ys → Stands x ys
  stands x [] h = absurd (omega arith)
  stands x (y ∷ ys) h =
      here_or_behind x y ys (same (coded.code x) (coded.code y)) refl (stands x ys) (omega (arith, h, sum_by-cons (one x) y ys))

  pub weigh_same : (xs ys : List X) → ((h : X → ℕ) → sum_by h xs ≡ sum_by h ys) → IsPermutation xs ys
  weigh_same [] [] e = IsPermutation-refl []
  weigh_same [] (y ∷ ys) e = absurd (omega (arith, e (λ _. 1), sum_by-cons (λ _. 1) y ys))
  weigh_same (x ∷ xs) ys e =
      let at = stands x ys (omega (arith, e (one x), sum_by-cons (one x) x xs, one_itself x)) in
      let rest : (h : X → ℕ) → sum_by h xs ≡ sum_by h (at.0 ++ at.1) =
      λ h. omega (arith, e h, ap (sum_by h) at.2, sum_by-cons h x xs, sum_by-append h at.0 (x ∷ at.1), sum_by-cons h x at.1, sum_by-append h at.0 at.1) in
      subst (IsPermutation (x ∷ xs)) (sym at.2)
      (IsPermutation-trans _ _ _ (IsPermutation-cons x xs (at.0 ++ at.1) (weigh_same xs (at.0 ++ at.1) rest)) (IsPermutation-sym _ _ (IsPermutation-middle at.0 x at.1)))

-- what the lists of all views weigh after one view was changed
pub flat_map-set : {V X : Type 0} (f : V → List X) (h : X → ℕ) (views : List V) (i : ℕ) (v w : V) → get_elem? views i ≡ some v
    → sum_by h (flat_map f (set views i w)) + sum_by h (f v) ≡ sum_by h (flat_map f views) + sum_by h (f w)
flat_map-set f h [] i v w e = absurd (some-ne-none v (sym e))
flat_map-set f h (x ∷ xs) zero v w e =
    omega (arith, sum_by-append h (f w) (flat_map f xs), sum_by-append h (f x) (flat_map f xs), ap (λ y. sum_by h (f y)) (some-injective x v e))
flat_map-set f h (x ∷ xs) (suc i) v w e =
    omega (arith, flat_map-set f h xs i v w e, sum_by-append h (f x) (flat_map f (set xs i w)), sum_by-append h (f x) (flat_map f xs))

-- and after one was added that has none
pub flat_map-snoc : {V X : Type 0} (f : V → List X) (views : List V) (w : V) → f w ≡ [] → flat_map f (views ++ w ∷ []) ≡ flat_map f views
flat_map-snoc f [] w e = ap (λ l. l ++ []) e
flat_map-snoc f (x ∷ xs) w e = ap (λ l. f x ++ l) (flat_map-snoc f xs w e)
