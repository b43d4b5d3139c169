-- The first place at which two lists of bytes differ.
use Rattle.std.proofs.Common.{◌≡◌, ◌≢◌, ℕ, zero, suc, ◌%◌, ◌<◌, List, [], ◌∷◌, length, get_or, eqb, eq-eqb, Bool, true, false, Option, Some, None, refl, sym, ap, ◌∙◌, arith, rules}
use Rattle.std.specs.Option.{option_map}
use Rattle.std.proofs.lemmas.Bool.Decides.{Decides-eqb}
use Rattle.jr_model.specs.Content.{pattern_bytes}
use Rattle.jr_model.specs.Judgement.{first_difference}
use Rattle.jr_header.proofs.Patterns.{get_or-pattern_bytes, length-pattern_bytes}

pub first_difference-same : (xs : List ℕ) → first_difference xs xs ≡ None
first_difference-same [] = refl
first_difference-same (x ∷ xs) =
    let equal : eqb x x ≡ true = eq-eqb x x refl in
    rw (equal, first_difference-same xs) refl

none_inside : (place : Option ℕ) → option_map suc place ≡ None → place ≡ None
none_inside None same = refl
none_inside (Some i) same = absurd (cc)

-- where there is none, lists of one length are equal
pub same_from-first_difference : (xs ys : List ℕ) → length xs ≡ length ys → first_difference xs ys ≡ None → xs ≡ ys
same_from-first_difference [] [] size none = refl
same_from-first_difference [] (y ∷ ys) size none = absurd (omega (arith, size))
same_from-first_difference (x ∷ xs) [] size none = absurd (omega (arith, size))
same_from-first_difference (x ∷ xs) (y ∷ ys) size none =
    heads (λ rest. same_from-first_difference xs ys (omega (arith, size)) rest) (eqb x y) refl
  where
    heads : (first_difference xs ys ≡ None → xs ≡ ys) → (b : Bool) → eqb x y ≡ b → x ∷ xs ≡ y ∷ ys
    heads tails true equal =
        let rest : option_map suc (first_difference xs ys) ≡ None = rw equal at none in
        let same : xs ≡ ys = tails (none_inside (first_difference xs ys) rest) in
        let first : x ≡ y = (Decides-eqb x y).0 equal in cc
    heads tails false other = let found : ◌≡◌ {A = Option ℕ} (Some 0) None = rw other at none in absurd (cc)

-- a place at which they differ, and before which they don't
pub first_difference_at : (xs ys : List ℕ) (i : ℕ) → i < length xs → length xs ≡ length ys
    → ((k : ℕ) → k < i → get_or xs k 0 ≡ get_or ys k 0) → get_or xs i 0 ≢ get_or ys i 0 → first_difference xs ys ≡ Some i
first_difference_at [] ys i below size before differs = absurd (omega arith)
first_difference_at (x ∷ xs) [] i below size before differs = absurd (omega (arith, size))
first_difference_at (x ∷ xs) (y ∷ ys) zero below size before differs = let other : eqb x y ≡ false = search (rules, differs) in rw other refl
first_difference_at (x ∷ xs) (y ∷ ys) (suc i) below size before differs =
    let equal : eqb x y ≡ true = eq-eqb x y (before 0 (omega arith)) in
    let rest : first_difference xs ys ≡ Some i =
    first_difference_at xs ys i (omega arith) (omega (arith, size)) (λ k h. before (suc k) (omega arith)) differs in
    rw (equal, rest) refl

-- no byte differs from the pattern
pub none_differs : (p xs : List ℕ) → xs ≡ pattern_bytes p (length xs) → first_difference xs (pattern_bytes p (length xs)) ≡ None
none_differs p xs same = ap (first_difference xs) (sym same) ∙ first_difference-same xs

-- the byte at i is the first that differs from the pattern
pub differs_at : (p xs : List ℕ) (i : ℕ) → i < length xs
    → ((k : ℕ) → k < i → get_or xs k 0 ≡ get_or p (k % length p) 0) → get_or xs i 0 ≢ get_or p (i % length p) 0
    → first_difference xs (pattern_bytes p (length xs)) ≡ Some i
differs_at p xs i below before differs =
    first_difference_at xs (pattern_bytes p (length xs)) i below (sym (length-pattern_bytes p (length xs)))
    (λ k h. before k h ∙ sym (get_or-pattern_bytes p (length xs) k (omega arith)))
    (λ same. differs (same ∙ get_or-pattern_bytes p (length xs) i below))
