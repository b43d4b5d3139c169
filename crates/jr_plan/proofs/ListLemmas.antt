-- Lists from a place on.
use Rattle.std.proofs.Common.{◌≡◌, ℕ, zero, suc, ◌+◌, List, [], ◌∷◌, ◌++◌, drop, slice_get, Some, ap, ◌∙◌, sym, refl, append_assoc, append-nil, add-one}
use Rattle.std.specs.List.{flat_map}
use Rattle.std.proofs.lemmas.Grind.{flat_map-append}

drop_at-suc : {X : Type 0} (xs : List X) (i : ℕ) (x : X) → slice_get xs i ≡ Some x → drop i xs ≡ x ∷ drop (suc i) xs
drop_at-suc [] i x at = absurd (cc)
drop_at-suc (y ∷ xs) zero x at = let e : y ≡ x = cc in ap (λ z. z ∷ xs) e
drop_at-suc (y ∷ xs) (suc i) x at = drop_at-suc xs i x at

-- the element at a place, and what follows it
pub drop_at : {X : Type 0} (xs : List X) (i : ℕ) (x : X) → slice_get xs i ≡ Some x → drop i xs ≡ x ∷ drop (i + 1) xs
drop_at xs i x at = rw add-one (drop_at-suc xs i x at)

-- what is made of a list, one element further
pub flat_map-further : {X A : Type 0} (f : X → List A) (xs : List X) (i : ℕ) (x : X) (done next all : List A) → slice_get xs i ≡ Some x → done ++ flat_map f (drop i xs) ≡ all → next ≡ done ++ f x → next ++ flat_map f (drop (i + 1) xs) ≡ all
flat_map-further {X = X} {A = A} f xs i x done next all at so_far is =
    let one : flat_map f (x ∷ []) ≡ f x ++ [] = refl in
    let split = ap (flat_map f) (drop_at xs i x at) ∙ flat_map-append f (x ∷ []) (drop (i + 1) xs) in
    let front : flat_map f (drop i xs) ≡ f x ++ flat_map f (drop (i + 1) xs) = split ∙ ap (λ (t : List A). t ++ flat_map f (drop (i + 1) xs)) (append-nil (f x)) in
    ap (λ (t : List A). t ++ flat_map f (drop (i + 1) xs)) is ∙ append_assoc done (f x) (flat_map f (drop (i + 1) xs)) ∙ sym (ap (λ (t : List A). done ++ t) front) ∙ so_far

-- three pieces, added one after another
pub added-three : {A : Type 0} (t0 t1 t2 t3 a b c : List A) → t1 ≡ t0 ++ a → t2 ≡ t1 ++ b → t3 ≡ t2 ++ c → t3 ≡ t0 ++ (a ++ b ++ c)
added-three t0 t1 t2 t3 a b c e1 e2 e3 =
    e3 ∙ ap (λ t. t ++ c) (e2 ∙ ap (λ t. t ++ b) e1) ∙ simp append_assoc

pub added-four : {A : Type 0} (t0 t1 t2 t3 t4 a b c d : List A) → t1 ≡ t0 ++ a → t2 ≡ t1 ++ b → t3 ≡ t2 ++ c → t4 ≡ t3 ++ d
    → t4 ≡ t0 ++ (a ++ b ++ c ++ d)
added-four t0 t1 t2 t3 t4 a b c d e1 e2 e3 e4 =
    e4 ∙ ap (λ t. t ++ d) (e3 ∙ ap (λ t. t ++ c) (e2 ∙ ap (λ t. t ++ b) e1)) ∙ simp append_assoc
