-- Lists in which one item is changed, and what is made of each item of a list.
use Rattle.std.proofs.Common.{◌≡◌, ℕ, zero, suc, List, [], ◌∷◌, map, refl, sym, ◌∙◌, ap, arith, inl, inr}
use Rattle.std.proofs.Math.ListN.{set}
use Rattle.std.specs.Prelude.{◌⊎◌, Some, slice_get}
use Rattle.std.proofs.lemmas.Option.{same_Some}

-- the same is made of each item
pub map_same : {X Y : Type 0} (f g : X → Y) (xs : List X)
    → ((j : ℕ) (y : X) → slice_get xs j ≡ Some y → g y ≡ f y)
    → map g xs ≡ map f xs
map_same f g [] same = refl
map_same {X = X} {Y = Y} f g (x ∷ xs) same =
    ap (λ (z : Y). z ∷ map g xs) (same 0 x refl)
    ∙ ap (λ (zs : List Y). f x ∷ zs) (map_same f g xs (λ (j : ℕ) (y : X) (at : slice_get xs j ≡ Some y). same (suc j) y at))

-- the same is made of each but one
pub map_set : {X Y : Type 0} (f g : X → Y) (xs : List X) (k : ℕ) (x : X) → slice_get xs k ≡ Some x
    → ((j : ℕ) (y : X) → slice_get xs j ≡ Some y → (j ≡ k → ⊥) → g y ≡ f y)
    → map g xs ≡ set (map f xs) k (g x)
map_set f g [] k x at same = cc
map_set {X = X} {Y = Y} f g (y ∷ xs) zero x at same =
    let here : y ≡ x = cc in
    ap (λ (z : X). g z ∷ map g xs) here
    ∙ ap (λ (zs : List Y). g x ∷ zs)
    (map_same f g xs (λ (j : ℕ) (z : X) (there : slice_get xs j ≡ Some z). same (suc j) z there (λ e. absurd (omega (arith, e)))))
map_set {X = X} {Y = Y} f g (y ∷ xs) (suc k) x at same =
    ap (λ (z : Y). z ∷ map g xs) (same 0 y refl (λ e. absurd (omega (arith, e))))
    ∙ ap (λ (zs : List Y). f y ∷ zs)
    (map_set f g xs k x at
    (λ (j : ℕ) (z : X) (there : slice_get xs j ≡ Some z) (apart : j ≡ k → ⊥). same (suc j) z there (λ e. apart (omega (arith, e)))))

-- an item of a list in which one was put is that one, or another that stayed
pub got_set : {X : Type 0} (xs : List X) (i k : ℕ) (x y : X) → slice_get (set xs i y) k ≡ Some x
    → ((k ≡ i) × (x ≡ y)) ⊎ ((i ≡ k → ⊥) × (slice_get xs k ≡ Some x))
got_set [] i k x y at = cc
got_set (z ∷ xs) zero zero x y at = inl (refl, sym (same_Some y x at))
got_set (z ∷ xs) zero (suc k) x y at = inr (λ (e : 0 ≡ suc k). omega (arith, e), at)
got_set (z ∷ xs) (suc i) zero x y at = inr (λ (e : suc i ≡ 0). omega (arith, e), at)
got_set (z ∷ xs) (suc i) (suc k) x y at =
    elim (got_set xs i k x y at) [
      | inl same ↦ inl (ap suc same.0, same.1)
      | inr other ↦ inr (λ (e : suc i ≡ suc k). other.0 (omega (arith, e)), other.1)
    ]

-- where one item is changed, the others stay
pub got_set_other : {X : Type 0} (xs : List X) (c k : ℕ) (s : X) → (k ≡ c → ⊥) → slice_get (set xs c s) k ≡ slice_get xs k
got_set_other [] c k s apart = refl
got_set_other (y ∷ ys) zero zero s apart = absurd (apart refl)
got_set_other (y ∷ ys) zero (suc k) s apart = refl
got_set_other (y ∷ ys) (suc c) zero s apart = refl
got_set_other (y ∷ ys) (suc c) (suc k) s apart = got_set_other ys c k s (λ (e : k ≡ c). apart (ap suc e))
