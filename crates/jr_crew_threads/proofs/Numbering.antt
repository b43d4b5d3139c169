-- Numbers that count up from one.
use Rattle.std.proofs.Common.{◌≡◌, ℕ, zero, suc, ◌+◌, List, [], ◌∷◌, ◌++◌, length, map, sym, ◌∙◌, ap, subst, arith}
use Rattle.std.proofs.lemmas.List.{map-append, length-append, length-map}
use Rattle.std.proofs.lemmas.Option.{same_Some}
use Rattle.jr_crew_threads.specs.Parts.{IsCountedFrom}

-- one number more
pub counted_on : (first : ℕ) (numbers : List ℕ) (n : ℕ) → IsCountedFrom first numbers → n ≡ first + length numbers → IsCountedFrom first (numbers ++ n ∷ [])
counted_on first [] n counted is zero m at = let same = same_Some n m at in omega (arith, is, same)
counted_on first [] n counted is (suc i) m at = cc
counted_on first (k ∷ numbers) n counted is zero m at = counted zero m at
counted_on first (k ∷ numbers) n counted is (suc i) m at =
    let rest = counted_on (suc first) numbers n (λ j l there. let c = counted (suc j) l there in omega (arith, c)) (omega (arith, is)) i m at in
    omega (arith, rest)

-- one more that has a number
pub numbered_on : {X : Type 0} (f : X → ℕ) (first : ℕ) (old new : List X) (x : X) → new ≡ old ++ x ∷ [] → IsCountedFrom first (map f old) → f x ≡ first + length old → IsCountedFrom first (map f new)
numbered_on {X = X} f first old new x is counted number =
    subst (λ (xs : List X). IsCountedFrom first (map f xs)) (sym is)
    (subst (λ (ns : List ℕ). IsCountedFrom first ns) (sym (map-append f old (x ∷ [])))
    (counted_on first (map f old) (f x) counted (number ∙ ap (λ (n : ℕ). first + n) (sym (length-map old f)))))

-- what is made of each, with one more
pub mapped_on : {X Y : Type 0} (f : X → Y) (old new : List X) (x : X) (made : List Y) → new ≡ old ++ x ∷ [] → map f old ≡ made → map f new ≡ made ++ f x ∷ []
mapped_on {Y = Y} f old new x made is so =
    ap (map f) is ∙ map-append f old (x ∷ []) ∙ ap (λ (ys : List Y). ys ++ f x ∷ []) so

-- one more is one more
pub one_longer : {X : Type 0} (old new : List X) (x : X) → new ≡ old ++ x ∷ [] → length new ≡ length old + 1
one_longer old new x is = ap length is ∙ length-append old (x ∷ [])
