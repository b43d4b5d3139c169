-- Lists by number: what one item more, or one item changed, makes of them.
use Rattle.std.proofs.Common.{◌≡◌, ℕ, zero, suc, ◌+◌, ◌<◌, ◌≤◌, List, [], ◌∷◌, length, map, refl, ◌∙◌, ap, arith}
use Rattle.std.proofs.Math.ListN.{set}
use Rattle.std.specs.Prelude.{Option, Some, slice_get}
use Rattle.std.specs.List.{enumerate_from, range_with_len}
use Rattle.std.proofs.lemmas.Option.{same_Some}

-- what is made of the items and their numbers has an item for each
pub length_numbered : {X Y : Type 0} (f : ℕ × X → Y) (n : ℕ) (xs : List X) → length (map f (enumerate_from n xs)) ≡ length xs
length_numbered f n [] = refl
length_numbered f n (x ∷ xs) = ap suc (length_numbered f (n + 1) xs)

pub got_numbered : {X Y : Type 0} (f : ℕ × X → Y) (n : ℕ) (xs : List X) (k : ℕ) (y : Y)
    → slice_get (map f (enumerate_from n xs)) k ≡ Some y → (x : X) × (slice_get xs k ≡ Some x) × (f (n + k, x) ≡ y)
got_numbered f n [] k y at = cc
got_numbered f n (x ∷ xs) zero y at =
    let same : n + 0 ≡ n = omega arith in
    (x, refl, ap (λ (i : ℕ). f (i, x)) same ∙ same_Some (f (n, x)) y at)
got_numbered f n (x ∷ xs) (suc k) y at =
    let rest = got_numbered f (n + 1) xs k y at in
    let same : n + suc k ≡ n + 1 + k = omega arith in
    (rest.0, rest.1, ap (λ (i : ℕ). f (i, rest.0)) same ∙ rest.2)

pub numbered_at : {X Y : Type 0} (f : ℕ × X → Y) (n : ℕ) (xs : List X) (k : ℕ) (x : X) → slice_get xs k ≡ Some x
    → slice_get (map f (enumerate_from n xs)) k ≡ Some (f (n + k, x))
numbered_at f n [] k x at = cc
numbered_at {X = X} {Y = Y} f n (y ∷ xs) zero x at =
    let same : n ≡ n + 0 = omega arith in
    ap {B = Option Y} (λ (z : X). Some (f (n, z))) (same_Some y x at) ∙ ap {B = Option Y} (λ (i : ℕ). Some (f (i, x))) same
numbered_at {X = X} {Y = Y} f n (y ∷ xs) (suc k) x at =
    let same : n + 1 + k ≡ n + suc k = omega arith in
    numbered_at f (n + 1) xs k x at ∙ ap {B = Option Y} (λ (i : ℕ). Some (f (i, x))) same

-- the same is made of each number from a on
map_below : {Y : Type 0} (f g : ℕ → Y) (a n : ℕ) → ((i : ℕ) → a ≤ i → f i ≡ g i) → map f (range_with_len a n) ≡ map g (range_with_len a n)
map_below f g a zero same = refl
map_below {Y = Y} f g a (suc n) same =
    let low : a ≤ a = omega arith in
    ap (λ (y : Y). y ∷ map f (range_with_len (a + 1) n)) (same a low)
    ∙ ap (λ (ys : List Y). g a ∷ ys) (map_below f g (a + 1) n (λ (i : ℕ) (h : a + 1 ≤ i). same i (omega (arith, h))))

-- the same is made of each but one
pub map_moved : {Y : Type 0} (f g : ℕ → Y) (a n k : ℕ) → k < n → ((i : ℕ) → (i ≡ a + k → ⊥) → f i ≡ g i)
    → map f (range_with_len a n) ≡ set (map g (range_with_len a n)) k (f (a + k))
map_moved f g a zero k below same = absurd (omega (arith, below))
map_moved {Y = Y} f g a (suc n) zero below same =
    let here : a ≡ a + 0 = omega arith in
    ap (λ (i : ℕ). f i ∷ map f (range_with_len (a + 1) n)) here
    ∙ ap (λ (ys : List Y). f (a + 0) ∷ ys)
    (map_below f g (a + 1) n (λ (i : ℕ) (h : a + 1 ≤ i). same i (λ (e : i ≡ a + 0). omega (arith, h, e))))
map_moved {Y = Y} f g a (suc n) (suc k) below same =
    let there : a + 1 + k ≡ a + suc k = omega arith in
    let rest : map f (range_with_len (a + 1) n) ≡ set (map g (range_with_len (a + 1) n)) k (f (a + 1 + k)) =
    map_moved f g (a + 1) n k (omega (arith, below))
    (λ (i : ℕ) (apart : i ≡ a + 1 + k → ⊥). same i (λ (e : i ≡ a + suc k). apart (omega (arith, e)))) in
    ap (λ (y : Y). y ∷ map f (range_with_len (a + 1) n)) (same a (λ (e : a ≡ a + suc k). omega (arith, e)))
    ∙ ap (λ (ys : List Y). g a ∷ ys) (rest ∙ ap (λ (i : ℕ). set (map g (range_with_len (a + 1) n)) k (f i)) there)
