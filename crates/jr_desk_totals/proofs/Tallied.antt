-- How many items of a numbered list pass a test of number and item: one more, or one that passes no longer.
use Rattle.std.proofs.Common.{◌≡◌, ℕ, zero, suc, ◌+◌, ◌≤◌, List, [], ◌∷◌, ◌++◌, length, Bool, true, false, cond, ◌&&◌, ◌||◌, not, refl, sym, ◌∙◌, ap, arith, add-zero, zero-add}
use Rattle.std.specs.Prelude.{Some, None, slice_get, ◌==◌, filter, filter_map, count_by}
use Rattle.std.specs.List.{list_all, list_any, cons_option, enumerate_from}
use Rattle.std.proofs.lemmas.List.Sums.{sum_by-cons}
use Rattle.jr_model.proofs.NumberLemmas.{one_more_is_some}

-- what a test counts for one item
abbrev pub counted : Bool → ℕ
counted b = cond b 1 0

abbrev pub tallied : {X : Type 0} → (ℕ → X → Bool) → ℕ → List X → ℕ
tallied w n [] = 0
tallied w n (x ∷ xs) = counted (w n x) + tallied w (n + 1) xs

pub tallied_same : {X : Type 0} (w u : ℕ → X → Bool) (n : ℕ) (xs : List X) → ((i : ℕ) (x : X) → n ≤ i → w i x ≡ u i x) → tallied w n xs ≡ tallied u n xs
tallied_same w u n [] same = refl
tallied_same {X = X} w u n (x ∷ xs) same =
    let here : counted (w n x) ≡ counted (u n x) = ap {B = ℕ} (λ (b : Bool). counted b) (same n x (omega arith)) in
    omega (arith, here, tallied_same w u (n + 1) xs (λ (i : ℕ) (y : X) (low : n + 1 ≤ i). same i y (omega (arith, low))))

pub tallied_push : {X : Type 0} (w : ℕ → X → Bool) (n : ℕ) (xs : List X) (x : X) → tallied w n (xs ++ x ∷ []) ≡ tallied w n xs + counted (w (n + length xs) x)
tallied_push w n [] x =
    let here : counted (w (n + 0) x) ≡ counted (w n x) = ap {B = ℕ} (λ (k : ℕ). counted (w k x)) (add-zero n) in
    omega (arith, here)
tallied_push w n (y ∷ xs) x =
    let place : n + 1 + length xs ≡ n + suc (length xs) = omega arith in
    let here : counted (w (n + 1 + length xs) x) ≡ counted (w (n + suc (length xs)) x) = ap {B = ℕ} (λ (k : ℕ). counted (w k x)) place in
    omega (arith, here, tallied_push w (n + 1) xs x)

-- the test of one place changes
pub tallied_moves : {X : Type 0} (w u : ℕ → X → Bool) (n k : ℕ) (xs : List X) (x : X) → slice_get xs k ≡ Some x → ((i : ℕ) (y : X) → (i ≡ n + k → ⊥) → u i y ≡ w i y) → tallied u n xs + counted (w (n + k) x) ≡ tallied w n xs + counted (u (n + k) x)
tallied_moves w u n k [] x at others = cc
tallied_moves {X = X} w u n zero (y ∷ xs) x at others =
    let same : y ≡ x = cc in
    let w_here : counted (w (n + 0) x) ≡ counted (w n y) = ap {B = ℕ} (λ (i : ℕ). counted (w i x)) (add-zero n) ∙ ap {B = ℕ} (λ (z : X). counted (w n z)) (sym same) in
    let u_here : counted (u (n + 0) x) ≡ counted (u n y) = ap {B = ℕ} (λ (i : ℕ). counted (u i x)) (add-zero n) ∙ ap {B = ℕ} (λ (z : X). counted (u n z)) (sym same) in
    let rest : tallied u (n + 1) xs ≡ tallied w (n + 1) xs = tallied_same u w (n + 1) xs (λ (i : ℕ) (z : X) (low : n + 1 ≤ i). others i z (λ equal. absurd (omega (arith, equal, low)))) in
    omega (arith, w_here, u_here, rest)
tallied_moves {X = X} w u n (suc k) (y ∷ xs) x at others =
    let place : n + suc k ≡ n + 1 + k = omega arith in
    let here : counted (u n y) ≡ counted (w n y) = ap {B = ℕ} (λ (b : Bool). counted b) (others n y (λ equal. absurd (omega (arith, equal)))) in
    let w_there : counted (w (n + suc k) x) ≡ counted (w (n + 1 + k) x) = ap {B = ℕ} (λ (i : ℕ). counted (w i x)) place in
    let u_there : counted (u (n + suc k) x) ≡ counted (u (n + 1 + k) x) = ap {B = ℕ} (λ (i : ℕ). counted (u i x)) place in
    let rest = tallied_moves w u (n + 1) k xs x at (λ (i : ℕ) (z : X) (apart : i ≡ n + 1 + k → ⊥). others i z (λ equal. apart (equal ∙ place))) in
    omega (arith, here, w_there, u_there, rest)

-- an item that passes is counted
pub tallied_least : {X : Type 0} (w : ℕ → X → Bool) (n k : ℕ) (xs : List X) (x : X) → slice_get xs k ≡ Some x → counted (w (n + k) x) ≤ tallied w n xs
tallied_least w n k [] x at = cc
tallied_least {X = X} w n zero (y ∷ xs) x at =
    let same : y ≡ x = cc in
    let here : counted (w (n + 0) x) ≡ counted (w n y) = ap {B = ℕ} (λ (i : ℕ). counted (w i x)) (add-zero n) ∙ ap {B = ℕ} (λ (z : X). counted (w n z)) (sym same) in
    omega (arith, here)
tallied_least w n (suc k) (y ∷ xs) x at =
    let place : n + suc k ≡ n + 1 + k = omega arith in
    let there : counted (w (n + suc k) x) ≡ counted (w (n + 1 + k) x) = ap {B = ℕ} (λ (i : ℕ). counted (w i x)) place in
    omega (arith, there, tallied_least w (n + 1) k xs x at)

-- of the items that pass one test, those that pass another
filtered_one : {X : Type 0} (k : X → Bool) (x : X) (rest : List X) (m : ℕ) (b : Bool) → count_by k rest ≡ m → count_by k (cond b (x ∷ rest) rest) ≡ counted (b && k x) + m
filtered_one {X = X} k x rest m true h =
    let first : count_by k (x ∷ rest) ≡ counted (k x) + count_by k rest = sum_by-cons (λ (y : X). counted (k y)) x rest in
    omega (arith, first, h)
filtered_one k x rest m false h = omega (arith, h)

pub count_filtered : {X : Type 0} (p k : X → Bool) (xs : List X) → count_by k (filter p xs) ≡ count_by (λ (x : X). p x && k x) xs
count_filtered p k [] = refl
count_filtered {X = X} p k (x ∷ xs) =
    filtered_one k x (filter p xs) (count_by (λ (y : X). p y && k y) xs) (p x) (count_filtered p k xs)
    ∙ sym (sum_by-cons (λ (y : X). counted (p y && k y)) x xs)

-- of the items of a numbered list that are kept, those that pass
kept_one : {X : Type 0} (p : X → Bool) (x : X) (rest : List X) (m : ℕ) (b : Bool) → count_by p rest ≡ m → count_by p (cons_option (cond b (Some x) None) rest) ≡ counted (b && p x) + m
kept_one {X = X} p x rest m true h =
    let first : count_by p (x ∷ rest) ≡ counted (p x) + count_by p rest = sum_by-cons (λ (y : X). counted (p y)) x rest in
    omega (arith, first, h)
kept_one p x rest m false h = omega (arith, h)

-- what a numbered list keeps by a test of number and item
abbrev pub kept_by : {X : Type 0} → (ℕ → X → Bool) → ℕ → List X → List X
kept_by {X = X} t n xs = filter_map (λ (numbered : ℕ × X). cond (t numbered.0 numbered.1) (Some numbered.1) None) (enumerate_from n xs)

pub count_kept : {X : Type 0} (t : ℕ → X → Bool) (p : X → Bool) (n : ℕ) (xs : List X) → count_by p (kept_by t n xs) ≡ tallied (λ (i : ℕ) (x : X). t i x && p x) n xs
count_kept t p n [] = refl
count_kept {X = X} t p n (x ∷ xs) =
    kept_one p x (kept_by t (n + 1) xs) (tallied (λ (i : ℕ) (y : X). t i y && p y) (n + 1) xs) (t n x) (count_kept t p (n + 1) xs)

-- a list's length and tests as counts

one_of : (b : Bool) → 1 ≡ counted (not b) + counted b
one_of true = refl
one_of false = refl

pub length_split : {X : Type 0} (p : X → Bool) (xs : List X) → length xs ≡ count_by (λ (x : X). not (p x)) xs + count_by p xs
length_split p [] = omega arith
length_split {X = X} p (x ∷ xs) =
    let yes : count_by p (x ∷ xs) ≡ counted (p x) + count_by p xs = sum_by-cons (λ (y : X). counted (p y)) x xs in
    let other : count_by (λ (y : X). not (p y)) (x ∷ xs) ≡ counted (not (p x)) + count_by (λ (y : X). not (p y)) xs = sum_by-cons (λ (y : X). counted (not (p y))) x xs in
    omega (arith, yes, other, one_of (p x), length_split p xs)

none_more : (n : ℕ) (b : Bool) → b ≡ (n == 0) → b ≡ (0 + n == 0)
none_more n b h = h ∙ ap {B = Bool} (λ (m : ℕ). m == 0) (sym (zero-add n))

all_one : (b rest : Bool) (n : ℕ) → rest ≡ (n == 0) → (b && rest) ≡ (counted (not b) + n == 0)
all_one true rest n h = none_more n rest h
all_one false rest n h = sym (one_more_is_some n)

pub all_as_count : {X : Type 0} (p : X → Bool) (xs : List X) → list_all p xs ≡ (count_by (λ (x : X). not (p x)) xs == 0)
all_as_count p [] = refl
all_as_count {X = X} p (x ∷ xs) =
    all_one (p x) (list_all p xs) (count_by (λ (y : X). not (p y)) xs) (all_as_count p xs)
    ∙ ap {B = Bool} (λ (m : ℕ). m == 0) (sym (sum_by-cons (λ (y : X). counted (not (p y))) x xs))

any_one : (b rest : Bool) (n : ℕ) → not rest ≡ (n == 0) → not (b || rest) ≡ (counted b + n == 0)
any_one true rest n h = sym (one_more_is_some n)
any_one false rest n h = none_more n (not rest) h

pub none_as_count : {X : Type 0} (p : X → Bool) (xs : List X) → not (list_any p xs) ≡ (count_by p xs == 0)
none_as_count p [] = refl
none_as_count {X = X} p (x ∷ xs) =
    any_one (p x) (list_any p xs) (count_by p xs) (none_as_count p xs)
    ∙ ap {B = Bool} (λ (m : ℕ). m == 0) (sym (sum_by-cons (λ (y : X). counted (p y)) x xs))
