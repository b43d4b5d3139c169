-- What is made of two lists side by side, as of clones and their totals: of what is left of both from a place on.
use Rattle.std.proofs.Common.{◌≡◌, ℕ, zero, suc, ◌+◌, ◌<◌, ◌≤◌, min, List, [], ◌∷◌, length, get_or, drop, ap, ◌∙◌, arith, add-one}
use Rattle.std.specs.Prelude.{Some, slice_get}

next_suc : {X Y R : Type 0} (made : List X → List Y → R) (step : X → Y → R → R)
    → ((x : X) (xs : List X) (y : Y) (ys : List Y) → made (x ∷ xs) (y ∷ ys) ≡ step x y (made xs ys))
    → (xs : List X) (ys : List Y) (i : ℕ) (x : X) (d : Y) → slice_get xs i ≡ Some x → i < length ys
    → made (drop i xs) (drop i ys) ≡ step x (get_or ys i d) (made (drop (suc i) xs) (drop (suc i) ys))
next_suc made step each [] ys i x d at within = cc
next_suc made step each (first ∷ xs) [] i x d at within = absurd (omega arith)
next_suc {X} made step each (first ∷ xs) (y ∷ ys) zero x d at within =
    each first xs y ys ∙ ap (λ (one : X). step one y (made xs ys)) (same first x at)
  where
    same : (a b : X) → Some a ≡ Some b → a ≡ b
    same a b h = cc
next_suc made step each (first ∷ xs) (y ∷ ys) (suc i) x d at within = next_suc made step each xs ys i x d at (omega arith)

-- the next of each, and those after them
pub next_of_both : {X Y R : Type 0} (made : List X → List Y → R) (step : X → Y → R → R)
    → ((x : X) (xs : List X) (y : Y) (ys : List Y) → made (x ∷ xs) (y ∷ ys) ≡ step x y (made xs ys))
    → (xs : List X) (ys : List Y) (i : ℕ) (x : X) (d : Y) → slice_get xs i ≡ Some x → i < length ys
    → made (drop i xs) (drop i ys) ≡ step x (get_or ys i d) (made (drop (i + 1) xs) (drop (i + 1) ys))
next_of_both made step each xs ys i x d at within = rw add-one (next_suc made step each xs ys i x d at within)

-- there are none past the shorter of the two
pub none_of_both : {X Y R : Type 0} (made : List X → List Y → R) (none : R) → ((ys : List Y) → made [] ys ≡ none)
    → ((xs : List X) → made xs [] ≡ none) → (xs : List X) (ys : List Y) (i : ℕ) → min (length xs) (length ys) ≤ i
    → made (drop i xs) (drop i ys) ≡ none
none_of_both made none left right [] ys zero h = left ys
none_of_both made none left right [] ys (suc i) h = left (drop (suc i) ys)
none_of_both made none left right (x ∷ xs) [] zero h = right (x ∷ xs)
none_of_both made none left right (x ∷ xs) [] (suc i) h = right (drop i xs)
none_of_both made none left right (x ∷ xs) (y ∷ ys) zero h = absurd (omega arith)
none_of_both made none left right (x ∷ xs) (y ∷ ys) (suc i) h = none_of_both made none left right xs ys i (omega arith)
