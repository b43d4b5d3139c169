-- Sums over lists, over places that are marked, and over the numbers below a bound.
use Rattle.std.proofs.Common.{◌≡◌, ℕ, zero, suc, ◌+◌, ◌<◌, ◌≤◌, List, [], ◌∷◌, ◌++◌, length, map, Bool, true, false, cond, refl, sym, ◌∙◌, ap, subst, arith, inl, inr, add-zero, zero-add}
use Rattle.std.specs.Prelude.{◌⊎◌, Option, Some, None, slice_get, filter, filter_map, sum, sum_by, count_by, flat_map}
use Rattle.std.specs.List.{range_with_len, cons_option}
use Rattle.std.proofs.lemmas.List.Sums.{sum-map, sum_by-cons}
use Rattle.std.proofs.lemmas.Bool.{cases_lt}

-- the sum of what f gives of the items
abbrev pub total : {X : Type 0} → (X → ℕ) → List X → ℕ
total f [] = 0
total f (x ∷ xs) = f x + total f xs

-- what f gives of an item that may not be there
abbrev pub got : {X : Type 0} → (X → ℕ) → Option X → ℕ
got f None = 0
got f (Some x) = f x

-- the sum of what f gives of the items at marked places, the first at place n
abbrev pub marked : {X : Type 0} → (ℕ → Bool) → (X → ℕ) → ℕ → List X → ℕ
marked t f n [] = 0
marked t f n (x ∷ xs) = cond (t n) (f x) 0 + marked t f (suc n) xs

-- the sum of f over the numbers below n
abbrev pub upto : (ℕ → ℕ) → ℕ → ℕ
upto f zero = 0
upto f (suc n) = upto f n + f n

pub total-append : {X : Type 0} (f : X → ℕ) (xs ys : List X) → total f (xs ++ ys) ≡ total f xs + total f ys
total-append f [] ys = omega arith
total-append f (x ∷ xs) ys = omega (arith, total-append f xs ys)

pub total_push : {X : Type 0} (f : X → ℕ) (xs : List X) (x : X) → total f (xs ++ x ∷ []) ≡ total f xs + f x
total_push f xs x = omega (arith, total-append f xs (x ∷ []))

pub sum_by-total : {X : Type 0} (f : X → ℕ) (xs : List X) → sum_by f xs ≡ total f xs
sum_by-total f [] = refl
sum_by-total f (x ∷ xs) = sum_by-cons f x xs ∙ ap (λ (n : ℕ). f x + n) (sum_by-total f xs)

pub sum_map-total : {X : Type 0} (f : X → ℕ) (xs : List X) → sum (map f xs) ≡ total f xs
sum_map-total f xs = sum-map f xs ∙ sum_by-total f xs

pub count_by-total : {X : Type 0} (p : X → Bool) (xs : List X) → count_by p xs ≡ total (λ (x : X). cond (p x) 1 0) xs
count_by-total {X = X} p xs = sum_by-total (λ (x : X). cond (p x) 1 0) xs

pub length-total : {X : Type 0} (xs : List X) → length xs ≡ total (λ (x : X). 1) xs
length-total [] = refl
length-total (x ∷ xs) = omega (arith, length-total xs)

-- the sum of the same
pub total_same : {X : Type 0} (f g : X → ℕ) (xs : List X) → ((x : X) → f x ≡ g x) → total f xs ≡ total g xs
total_same f g [] same = refl
total_same f g (x ∷ xs) same = omega (arith, same x, total_same f g xs same)

-- the same at the items of the list
pub total_same_at : {X : Type 0} (f g : X → ℕ) (xs : List X) → ((k : ℕ) (x : X) → slice_get xs k ≡ Some x → f x ≡ g x) → total f xs ≡ total g xs
total_same_at f g [] same = refl
total_same_at {X = X} f g (x ∷ xs) same =
    omega (arith, same 0 x refl, total_same_at f g xs (λ (k : ℕ) (y : X) (at : slice_get xs k ≡ Some y). same (suc k) y at))

pub total_zero : {X : Type 0} (f : X → ℕ) (xs : List X) → ((x : X) → f x ≡ 0) → total f xs ≡ 0
total_zero f [] zeros = refl
total_zero f (x ∷ xs) zeros = omega (arith, zeros x, total_zero f xs zeros)

pub total-sum : {X : Type 0} (f g : X → ℕ) (xs : List X) → total (λ (x : X). f x + g x) xs ≡ total f xs + total g xs
total-sum f g [] = refl
total-sum f g (x ∷ xs) = omega (arith, total-sum f g xs)

pub total-map : {X Y : Type 0} (f : Y → ℕ) (g : X → Y) (xs : List X) → total f (map g xs) ≡ total (λ (x : X). f (g x)) xs
total-map f g [] = refl
total-map f g (x ∷ xs) = ap (λ (n : ℕ). f (g x) + n) (total-map f g xs)

pub total-filter : {X : Type 0} (f : X → ℕ) (p : X → Bool) (xs : List X) → total f (filter p xs) ≡ total (λ (x : X). cond (p x) (f x) 0) xs
total-filter f p [] = refl
total-filter {X = X} f p (x ∷ xs) = by_case (p x) (total-filter f p xs)
  where
    by_case : (b : Bool) → total f (filter p xs) ≡ total (λ (y : X). cond (p y) (f y) 0) xs → total f (cond b (x ∷ filter p xs) (filter p xs)) ≡ cond b (f x) 0 + total (λ (y : X). cond (p y) (f y) 0) xs
    by_case true h = ap (λ (n : ℕ). f x + n) h
    by_case false h = omega (arith, h)

pub total-filter_map : {X Y : Type 0} (f : Y → ℕ) (g : X → Option Y) (xs : List X) → total f (filter_map g xs) ≡ total (λ (x : X). got f (g x)) xs
total-filter_map f g [] = refl
total-filter_map {X = X} f g (x ∷ xs) = by_case (g x) (total-filter_map f g xs)
  where
    by_case : (o : Option _) → total f (filter_map g xs) ≡ total (λ (y : X). got f (g y)) xs → total f (cons_option o (filter_map g xs)) ≡ got f o + total (λ (y : X). got f (g y)) xs
    by_case None h = omega (arith, h)
    by_case (Some y) h = ap (λ (n : ℕ). f y + n) h

pub total-flat_map : {X Y : Type 0} (f : Y → ℕ) (g : X → List Y) (xs : List X) → total f (flat_map g xs) ≡ total (λ (x : X). total f (g x)) xs
total-flat_map f g [] = refl
total-flat_map f g (x ∷ xs) = omega (arith, total-append f (g x) (flat_map g xs), total-flat_map f g xs)

-- over the numbers from a on
pub total_range : (f : ℕ → ℕ) (a n : ℕ) → total f (range_with_len a n) ≡ upto (λ (i : ℕ). f (a + i)) n
total_range f a zero = refl
total_range f a (suc n) =
    omega (arith, total_range f (a + 1) n, ap f (sym (add-zero a)), upto_first (λ (i : ℕ). f (a + i)) n, upto_same (λ (i : ℕ). f (a + 1 + i)) (λ (i : ℕ). f (a + suc i)) n (λ (i : ℕ). ap f (moved i)))
  where
    moved : (i : ℕ) → a + 1 + i ≡ a + suc i
    moved i = omega arith

    upto_same : (g k : ℕ → ℕ) (m : ℕ) → ((i : ℕ) → g i ≡ k i) → upto g m ≡ upto k m
    upto_same g k zero same = refl
    upto_same g k (suc m) same = omega (arith, upto_same g k m same, same m)

    upto_first : (g : ℕ → ℕ) (m : ℕ) → upto g (suc m) ≡ g 0 + upto (λ (i : ℕ). g (suc i)) m
    upto_first g zero = omega arith
    upto_first g (suc m) = omega (arith, upto_first g m)

pub total_upto : (f : ℕ → ℕ) (n : ℕ) → total f (range_with_len 0 n) ≡ upto f n
total_upto f n = total_range f 0 n ∙ upto_at f n
  where
    upto_at : (g : ℕ → ℕ) (m : ℕ) → upto (λ (i : ℕ). g (0 + i)) m ≡ upto g m
    upto_at g zero = refl
    upto_at g (suc m) = omega (arith, upto_at g m, ap g (zero-add m))

pub upto_same_below : (f g : ℕ → ℕ) (n : ℕ) → ((i : ℕ) → i < n → f i ≡ g i) → upto f n ≡ upto g n
upto_same_below f g zero same = refl
upto_same_below f g (suc n) same =
    omega (arith, upto_same_below f g n (λ (i : ℕ) (below : i < n). same i (omega arith)), same n (omega arith))

-- a sum in which one number's share grows
pub upto_grows : (f g : ℕ → ℕ) (n p more : ℕ) → p < n → g p ≡ f p + more → ((i : ℕ) → (i ≡ p → ⊥) → g i ≡ f i) → upto g n ≡ upto f n + more
upto_grows f g zero p more below here others = absurd (omega arith)
upto_grows f g (suc n) p more below here others =
    elim (same_or_below p n below) [
      | inl last ↦
          let e : g n ≡ f n + more = subst (λ (i : ℕ). g i ≡ f i + more) last here in
          omega (arith, e, upto_same_below f g n (λ (i : ℕ) (under : i < n). sym (others i (λ same. absurd (omega (arith, same, last, under))))))
      | inr before ↦
          omega (arith, upto_grows f g n p more before here others, others n (λ same. absurd (omega (arith, same, before))))
    ]
  where
    same_or_below : (a b : ℕ) → a < suc b → (a ≡ b) ⊎ (a < b)
    same_or_below a b h =
        elim (cases_lt a b) [
          | inl less ↦ inr less
          | inr more_so ↦ inl (omega (arith, h, more_so))
        ]

pub upto-sum : (f g : ℕ → ℕ) (n : ℕ) → upto (λ (i : ℕ). f i + g i) n ≡ upto f n + upto g n
upto-sum f g zero = refl
upto-sum f g (suc n) = omega (arith, upto-sum f g n)

-- the same marks
pub marked_same : {X : Type 0} (t u : ℕ → Bool) (f : X → ℕ) (n : ℕ) (xs : List X) → ((i : ℕ) → n ≤ i → i < n + length xs → t i ≡ u i) → marked t f n xs ≡ marked u f n xs
marked_same t u f n [] same = refl
marked_same t u f n (x ∷ xs) same =
    omega (arith, ap (λ (b : Bool). cond b (f x) 0) (same n (omega arith) (omega arith)), marked_same t u f (suc n) xs (λ (i : ℕ) (low : suc n ≤ i) (high : i < suc n + length xs). same i (omega arith) (omega arith)))

pub marked_push : {X : Type 0} (t : ℕ → Bool) (f : X → ℕ) (n : ℕ) (xs : List X) (x : X) → marked t f n (xs ++ x ∷ []) ≡ marked t f n xs + cond (t (n + length xs)) (f x) 0
marked_push t f n [] x = omega (arith, ap (λ (k : ℕ). cond (t k) (f x) 0) (sym (add-zero n)))
marked_push t f n (y ∷ xs) x =
    omega (arith, marked_push t f (suc n) xs x, ap (λ (k : ℕ). cond (t k) (f x) 0) (moved n (length xs)))
  where
    moved : (a b : ℕ) → suc a + b ≡ a + suc b
    moved a b = omega arith

-- one place more is marked
pub marked_grows : {X : Type 0} (t u : ℕ → Bool) (f : X → ℕ) (n k : ℕ) (xs : List X) (x : X) → slice_get xs k ≡ Some x → t (n + k) ≡ false → u (n + k) ≡ true → ((i : ℕ) → (i ≡ n + k → ⊥) → u i ≡ t i) → marked u f n xs ≡ marked t f n xs + f x
marked_grows t u f n k [] x at off on others = cc
marked_grows t u f n zero (y ∷ xs) x at off on others =
    let same : y ≡ x = cc in
    let off_here : t n ≡ false = subst (λ (i : ℕ). t i ≡ false) (add-zero n) off in
    let on_here : u n ≡ true = subst (λ (i : ℕ). u i ≡ true) (add-zero n) on in
    omega (
      arith,
      ap f same,
      ap (λ (b : Bool). cond b (f y) 0) off_here,
      ap (λ (b : Bool). cond b (f y) 0) on_here,
      marked_same u t f (suc n) xs (λ (i : ℕ) (low : suc n ≤ i) (high : i < suc n + length xs). others i (λ equal. omega (arith, equal, low))),
    )
marked_grows t u f n (suc k) (y ∷ xs) x at off on others =
    let place : n + suc k ≡ suc n + k = omega arith in
    omega (
      arith,
      ap (λ (b : Bool). cond b (f y) 0) (others n (λ equal. omega (arith, equal))),
      marked_grows t u f (suc n) k xs x at (subst (λ (i : ℕ). t i ≡ false) place off) (subst (λ (i : ℕ). u i ≡ true) place on) (λ (i : ℕ) (apart : i ≡ suc n + k → ⊥). others i (λ equal. apart (omega (arith, equal)))),
    )

-- all that counts is marked
pub marked_all : {X : Type 0} (t : ℕ → Bool) (f : X → ℕ) (n : ℕ) (xs : List X) → ((k : ℕ) (x : X) → slice_get xs k ≡ Some x → (t (n + k) ≡ true) ⊎ (f x ≡ 0)) → marked t f n xs ≡ total f xs
marked_all t f n [] all = refl
marked_all {X = X} t f n (x ∷ xs) all =
    omega (arith, first (all 0 x refl), marked_all t f (suc n) xs (λ (k : ℕ) (y : X) (at : slice_get xs k ≡ Some y). moved k y (all (suc k) y at)))
  where
    first : (t (n + 0) ≡ true) ⊎ (f x ≡ 0) → cond (t n) (f x) 0 ≡ f x
    first (inl on) = ap (λ (b : Bool). cond b (f x) 0) (subst (λ (i : ℕ). t i ≡ true) (add-zero n) on)
    first (inr none) = by_case (t n)
      where
        by_case : (b : Bool) → cond b (f x) 0 ≡ f x
        by_case true = refl
        by_case false = sym none

    moved : (k : ℕ) (y : X) → (t (n + suc k) ≡ true) ⊎ (f y ≡ 0) → (t (suc n + k) ≡ true) ⊎ (f y ≡ 0)
    moved k y (inl on) = inl (subst (λ (i : ℕ). t i ≡ true) (omega arith) on)
    moved k y (inr none) = inr none
