-- Lines of JSON, piece by piece.
use Rattle.std.proofs.Common.{◌≡◌, ℕ, ◌+◌, List, [], ◌∷◌, ◌++◌, length, take, ap, ◌∙◌, arith}
use Rattle.std.proofs.Common.{length-append}
use Rattle.std.proofs.lemmas.List.{take-append-le, take_all}

-- a list without its last item
pub without_last : (xs : List ℕ) (y n : ℕ) → n + 1 ≡ length (xs ++ y ∷ []) → take n (xs ++ y ∷ []) ≡ xs
without_last xs y n h =
    let count = length-append xs (y ∷ []) in
    take-append-le n xs (y ∷ []) (omega (arith, count, h)) ∙ take_all n xs (omega (arith, count, h))

-- five pieces, one after another, from nothing
pub five_pieces : (t0 t1 t2 t3 t4 t5 a b c d e : List ℕ) → t0 ≡ [] → t1 ≡ t0 ++ a → t2 ≡ t1 ++ b → t3 ≡ t2 ++ c → t4 ≡ t3 ++ d
    → t5 ≡ t4 ++ e → t5 ≡ a ++ b ++ c ++ d ++ e
five_pieces t0 t1 t2 t3 t4 t5 a b c d e e0 e1 e2 e3 e4 e5 =
    e5 ∙ ap (λ (t : List ℕ). t ++ e) (e4 ∙ ap (λ (t : List ℕ). t ++ d)
    (e3 ∙ ap (λ (t : List ℕ). t ++ c) (e2 ∙ ap (λ (t : List ℕ). t ++ b) (e1 ∙ ap (λ (t : List ℕ). t ++ a) e0))))

-- two more
pub two_more : (t5 t6 t7 s f g : List ℕ) → t5 ≡ s → t6 ≡ t5 ++ f → t7 ≡ t6 ++ g → t7 ≡ s ++ f ++ g
two_more t5 t6 t7 s f g e5 e6 e7 = e7 ∙ ap (λ (t : List ℕ). t ++ g) (e6 ∙ ap (λ (t : List ℕ). t ++ f) e5)
