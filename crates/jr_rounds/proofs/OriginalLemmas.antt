-- The sums of parts, one part after another.
use Rattle.std.proofs.Common.{◌≡◌, ℕ, zero, suc, ◌+◌, ◌<◌, List, [], ◌∷◌, ◌++◌, get_or, take, length, Bool, true, false}
use Rattle.std.proofs.Common.{arith, ap, sym, ◌∙◌, refl, add-one, append-nil}
use Rattle.std.specs.Prelude.{◌==◌, if◌then◌else◌}
use Rattle.jr_model.specs.declared.totals.Totals.{Totals}
use Rattle.jr_rounds.specs.Adding.{added}
use Rattle.jr_rounds.specs.Originals.{of_original}
use Rattle.jr_rounds.specs.Sums.{sum_of}
use Rattle.jr_rounds.proofs.SumLemmas.{sum_of_more}

-- one total, or none
abbrev if_part : Bool → Totals → List Totals
if_part b t = if b then t ∷ [] else []

put : (b : Bool) (t : Totals) (xs ys more : List Totals) → xs ≡ ys ++ more
    → (if b then t ∷ xs else xs) ≡ (if b then t ∷ ys else ys) ++ more
put true t xs ys more h = ap (λ (zs : List Totals). t ∷ zs) h
put false t xs ys more h = h

last : (b : Bool) (t : Totals) → (if b then t ∷ [] else []) ≡ if_part b t
last b t = refl

next_part : (c : ℕ) (os : List ℕ) (ts : List Totals) (i d : ℕ) (e : Totals) → i < length os → length os ≡ length ts
    → of_original c (take (suc i) os) (take (suc i) ts)
    ≡ of_original c (take i os) (take i ts) ++ if_part (get_or os i d == c) (get_or ts i e)
next_part c [] ts i d e h n = absurd (omega arith)
next_part c (o ∷ os) [] i d e h n = absurd (omega arith)
next_part c (o ∷ os) (t ∷ ts) zero d e h n = refl
next_part c (o ∷ os) (t ∷ ts) (suc i) d e h n =
    put (o == c) t _ _ (if_part (get_or os i d == c) (get_or ts i e)) (next_part c os ts i d e (omega arith) (omega arith))

sum_if : (b : Bool) (xs : List Totals) (t : Totals) → (if b then added (sum_of xs) t else sum_of xs) ≡ sum_of (xs ++ if_part b t)
sum_if true xs t = sym (sum_of_more xs t)
sum_if false xs t = ap sum_of (sym (append-nil xs))

pub part_more : (c : ℕ) (os : List ℕ) (ts : List Totals) (i d : ℕ) (e : Totals) → i < length os → length os ≡ length ts
    → (if get_or os i d == c then added (sum_of (of_original c (take i os) (take i ts))) (get_or ts i e)
    else sum_of (of_original c (take i os) (take i ts)))
    ≡ sum_of (of_original c (take (i + 1) os) (take (i + 1) ts))
part_more c os ts i d e h n =
    sum_if (get_or os i d == c) (of_original c (take i os) (take i ts)) (get_or ts i e)
    ∙ rw add-one (ap sum_of (sym (next_part c os ts i d e h n)))
