-- A list that was cleared and filled up.
use Rattle.std.proofs.Common.{◌≡◌, ℕ, ◌-◌, take, List, [], ◌++◌, replicate, zero, suc, refl, ◌∙◌, ap, arith}

take_none : {X : Type 0} (n : ℕ) → take {A = X} n [] ≡ []
take_none zero = refl
take_none (suc n) = refl

pub zeros_of : (old : List ℕ) (m n : ℕ) → old ≡ [] → m ≡ 0 → take n old ++ replicate (n - m) 0 ≡ replicate n 0
zeros_of old m n none empty =
    let all : n - m ≡ n = omega (arith, empty) in
    ap (λ (xs : List ℕ). take n xs ++ replicate (n - m) 0) none
    ∙ ap (λ (xs : List ℕ). xs ++ replicate (n - m) 0) (take_none n)
    ∙ ap (λ (k : ℕ). replicate k 0) all
