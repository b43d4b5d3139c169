-- Two lists in strict order that have the same elements are one.
use Rattle.std.proofs.Common.{◌≡◌, List, [], ◌∷◌, refl, sym, ◌∙◌, ap, subst, inl, inr, IsPermutation}
use Rattle.std.specs.Prelude.{◌⊎◌}
use Rattle.std.specs.declared.cmp.Ordering.{Ordering}
use Rattle.std.specs.declared.cmp.Ordering.TheVariants.{Less}
use Rattle.std.specs.List.{AllByRecursion}
use Rattle.std.specs.List.Sorted.{IsStrictlySortedBy}
use Rattle.std.proofs.lemmas.List.Elements.{All-from_recursion, recursion_from_All}
use Rattle.std.proofs.lemmas.List.Sorted.{All-permutation, IsPermutation-sym}
use Rattle.jr_report_lines.proofs.FlatMaps.{all_weaker}

-- x stands in the list
abbrev pub StandsIn : {X : Type 0} → X → List X → Type 0
StandsIn x [] = ⊥
StandsIn x (y ∷ ys) = (x ≡ y) ⊎ StandsIn x ys

stand_in_own : {X : Type 0} (xs : List X) → AllByRecursion (λ x. StandsIn x xs) xs
stand_in_own [] = tt
stand_in_own {X} (x ∷ xs) =
    (inl refl, all_weaker (λ (y : X). StandsIn y xs) (λ (y : X). StandsIn y (x ∷ xs)) (λ y there. inr there) xs (stand_in_own xs))

pub stand_in : {X : Type 0} (xs ys : List X) → IsPermutation xs ys → AllByRecursion (λ y. StandsIn y xs) ys
stand_in {X} xs ys same =
    recursion_from_All (λ (y : X). StandsIn y xs) ys
    (All-permutation (λ (y : X). StandsIn y xs) xs ys same (All-from_recursion (λ (y : X). StandsIn y xs) xs (stand_in_own xs)))

at_stand : {X : Type 0} (P : X → Type 0) (xs : List X) (x : X) → AllByRecursion P xs → StandsIn x xs → P x
at_stand P [] x all there = absurd there
at_stand P (y ∷ xs) x all there =
    elim there [ inl is ↦ subst P (sym is) all.0 | inr behind ↦ at_stand P xs x all.1 behind ]

module _ {X : Type 0} (cmp : X → X → Ordering) (strict : (x y : X) → cmp x y ≡ Less → cmp y x ≡ Less → ⊥) where
  -- the elements behind stand in the other list behind its first
  behind : (x y : X) (xs ys : List X) → x ≡ y → AllByRecursion (λ z. cmp x z ≡ Less) xs
      → AllByRecursion (λ z. StandsIn z (y ∷ ys)) xs → AllByRecursion (λ z. StandsIn z ys) xs
  behind x y [] ys same above all = tt
  behind x y (z ∷ xs) ys same above all = (by all.0, behind x y xs ys same above.1 all.1)
    where
      by : StandsIn z (y ∷ ys) → StandsIn z ys
      by there =
          elim there [
            | inl is ↦
                let less : cmp x x ≡ Less = subst (λ (v : X). cmp x v ≡ Less) (is ∙ sym same) above.0 in
                absurd (strict x x less less)
            | inr there_behind ↦ there_behind
          ]

  pub sorted_one : (xs ys : List X) → IsStrictlySortedBy cmp xs → IsStrictlySortedBy cmp ys
      → AllByRecursion (λ z. StandsIn z ys) xs → AllByRecursion (λ z. StandsIn z xs) ys → xs ≡ ys
  unfolding IsStrictlySortedBy
  sorted_one [] [] up_xs up_ys in_ys in_xs = refl
  sorted_one [] (y ∷ ys) up_xs up_ys in_ys in_xs = absurd in_xs.0
  sorted_one (x ∷ xs) [] up_xs up_ys in_ys in_xs = absurd in_ys.0
  sorted_one (x ∷ xs) (y ∷ ys) up_xs up_ys in_ys in_xs =
      let first : x ≡ y = firsts in_ys.0 in_xs.0 in
      ap (λ (v : X). v ∷ xs) first
      ∙ ap (λ (zs : List X). y ∷ zs) (sorted_one xs ys up_xs.1 up_ys.1
      (behind x y xs ys first up_xs.0 in_ys.1)
      (behind y x ys xs (sym first) up_ys.0 in_xs.1))
    where
      firsts : StandsIn x (y ∷ ys) → StandsIn y (x ∷ xs) → x ≡ y
      firsts x_there y_there =
          elim x_there [
            | inl is ↦ is
            | inr x_behind ↦
                elim y_there [
                  | inl is ↦ sym is
                  | inr y_behind ↦
                      absurd (strict x y
                      (at_stand (λ z. cmp x z ≡ Less) xs y up_xs.0 y_behind)
                      (at_stand (λ z. cmp y z ≡ Less) ys x up_ys.0 x_behind))
                ]
          ]

  pub sorted_permutation : (xs ys : List X) → IsPermutation xs ys → IsStrictlySortedBy cmp xs → IsStrictlySortedBy cmp ys → xs ≡ ys
  sorted_permutation xs ys same up_xs up_ys =
      sorted_one xs ys up_xs up_ys (stand_in ys xs (IsPermutation-sym xs ys same)) (stand_in xs ys same)
