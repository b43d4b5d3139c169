-- What threads find of shares of a list is what is found of the list.
use Rattle.std.proofs.Common.{◌≡◌, List, [], ◌∷◌, ◌++◌, map, flat_map, refl, sym, ap, subst, ◌∙◌}
use Rattle.std.specs.Prelude.{Result, Ok, Err, IfOk, MatchResult, Contains}
use Rattle.std.specs.Borrow.{Bor}
use Rattle.std.specs.Global.{Vec}
use Rattle.std.specs.List.{AllZip}
use Rattle.std.proofs.lemmas.List.{map-append}

module _ {X F E : Type 0} (h : X → F) (Post : Bor (List X) → Result (Vec F) E → Type 0) (says : (x : Bor (List X)) (r : Result (Vec F) E) → Post x r → IfOk r (λ v. v.items ≡ map h x.now)) where
  pub shares_found : (xs : List (Bor (List X))) (ys : List (Vec F)) → AllZip Post xs (map (λ y. Ok y) ys) → flat_map (λ v. v.items) ys ≡ map h (flat_map (λ l. l) (map (λ x. x.now) xs))
  shares_found [] [] all = refl
  shares_found [] (y ∷ ys) all = absurd all
  shares_found (x ∷ xs) [] all = absurd all
  shares_found (x ∷ xs) (y ∷ ys) all =
      ap (λ l. y.items ++ l) (shares_found xs ys all.1)
      ∙ ap (λ l. l ++ map h (flat_map (λ l. l) (map (λ x. x.now) xs))) (says x (Ok y) all.0)
      ∙ sym (map-append h x.now (flat_map (λ l. l) (map (λ x. x.now) xs)))

  -- and so it is where all shares were found
  pub all_found : (shares : List (Bor (List X))) (made : List (Result (Vec F) E)) (parts : List X) (found : Result (Vec (Vec F)) E) → AllZip Post shares made → flat_map (λ l. l) (map (λ x. x.now) shares) ≡ parts → MatchResult found (λ v. (ys : List (Vec F)) × (made ≡ map (λ y. Ok y) ys) × (v.items ≡ ys)) (λ e. Contains made (Err e)) → IfOk found (λ v. flat_map (λ one. one.items) v.items ≡ map h parts)
  all_found shares made parts (Err e) all whole is = tt
  all_found shares made parts (Ok v) all whole is =
      ap (flat_map (λ one. one.items)) is.2
      ∙ shares_found shares is.0 (subst (λ rs. AllZip Post shares rs) is.1 all)
      ∙ ap (map h) whole
