-- Lists read by place: what a test or a search over a list says of the item at a place.
use Rattle.std.proofs.Common.{◌≡◌, ℕ, zero, suc, ◌+◌, ◌<◌, List, [], ◌∷◌, ◌++◌, length, take, drop, set, Bool, true, false, cond, ◌&&◌, refl, sym, ◌∙◌, ap, subst, arith, inl, inr}
use Rattle.std.specs.Prelude.{◌⊎◌, Option, Some, None, slice_get, map, filter, filter_map}
use Rattle.std.specs.Option.{option_or, option_map}
use Rattle.std.specs.List.{list_any, list_all, cons_option, range_with_len, enumerate_from}
use Rattle.std.proofs.lemmas.Bool.{and_from, or_cases, or_left, or_right, cases_Bool}
use Rattle.std.proofs.lemmas.Option.{same_Some, slice_get-map}
use Rattle.jr_model.specs.History.{first_given}

-- a place of a longer list is its first, or one of the rest
pub cases_place : {X : Type 0} (y : X) (ys : List X) (k : ℕ) (x : X) → slice_get (y ∷ ys) k ≡ Some x → ((k ≡ 0) × (y ≡ x)) ⊎ ((j : ℕ) × (k ≡ suc j) × (slice_get ys j ≡ Some x))
cases_place y ys zero x at = inl (refl, same_Some y x at)
cases_place y ys (suc j) x at = inr (j, refl, at)

-- each place below the length has its item
pub item_at : {X : Type 0} (xs : List X) (k : ℕ) → k < length xs → (x : X) × (slice_get xs k ≡ Some x)
item_at [] k below = absurd (omega (arith, below))
item_at (x ∷ xs) zero below = (x, refl)
item_at (x ∷ xs) (suc k) below = item_at xs k (omega (arith, below))

-- where the item at each place passes, all do
pub all_from : {X : Type 0} (test : X → Bool) (xs : List X) → ((k : ℕ) (x : X) → slice_get xs k ≡ Some x → test x ≡ true) → list_all test xs ≡ true
all_from test [] each = refl
all_from test (x ∷ xs) each =
    and_from (test x) (list_all test xs) (each 0 x refl) (all_from test xs (λ k y at. each (suc k) y at))

-- where not all items pass, there is a first that doesn't
pub first_fails : {X : Type 0} (test : X → Bool) (xs : List X) → list_all test xs ≡ false → (k : ℕ) × (x : X) × (slice_get xs k ≡ Some x) × (test x ≡ false) × (list_all test (take k xs) ≡ true)
first_fails test [] h = cc
first_fails test (x ∷ xs) h =
    elim (cases_Bool (test x)) [
      | inl passes ↦
          let more = first_fails test xs (sym (ap (λ b. b && list_all test xs) passes) ∙ h) in
          (suc more.0, more.1, more.2, more.3, and_from (test x) (list_all test (take more.0 xs)) passes more.4)
      | inr fails ↦ (0, x, refl, fails, refl)
    ]

-- an item that passes is at some place
pub any_found : {X : Type 0} (test : X → Bool) (xs : List X) → list_any test xs ≡ true → (k : ℕ) × (x : X) × (slice_get xs k ≡ Some x) × (test x ≡ true)
any_found test [] h = cc
any_found test (x ∷ xs) h =
    elim (or_cases (test x) (list_any test xs) h) [
      | inl here ↦ (0, x, refl, here)
      | inr later ↦ let more = any_found test xs later in (suc more.0, more.1, more.2, more.3)
    ]

-- the item at a place that passes is one that does
pub any_at : {X : Type 0} (test : X → Bool) (xs : List X) (k : ℕ) (x : X) → slice_get xs k ≡ Some x → test x ≡ true → list_any test xs ≡ true
any_at test [] k x at passes = cc
any_at test (y ∷ ys) zero x at passes =
    or_left (test y) (list_any test ys) (subst (λ z. test z ≡ true) (sym (same_Some y x at)) passes)
any_at test (y ∷ ys) (suc k) x at passes = or_right (test y) (list_any test ys) (any_at test ys k x at passes)

-- where nothing is given of any item, nothing is of the one at a place
pub none_given : {X Y : Type 0} (f : X → Option Y) (xs : List X) (k : ℕ) (x : X) → first_given f xs ≡ None → slice_get xs k ≡ Some x → f x ≡ None
none_given {Y = Y} f [] k x h at = cc
none_given {Y = Y} f (y ∷ ys) k x h at =
    elim (cases_place y ys k x at) [
      | inl here ↦ subst (λ z. f z ≡ None) here.1 (neither (f y) (first_given f ys) h).0
      | inr later ↦ none_given f ys later.0 x (neither (f y) (first_given f ys) h).1 later.2
    ]
  where
    neither : (a b : Option Y) → option_or a b ≡ None → (a ≡ None) × (b ≡ None)
    neither None b g = (refl, g)
    neither (Some z) b g = cc

-- what is given of the item at a place is kept at some place
pub kept_at : {X Y : Type 0} (f : X → Option Y) (xs : List X) (k : ℕ) (x : X) (y : Y) → slice_get xs k ≡ Some x → f x ≡ Some y → (j : ℕ) × (slice_get (filter_map f xs) j ≡ Some y)
kept_at {Y = Y} f [] k x y at gives = cc
kept_at {Y = Y} f (first ∷ xs) k x y at gives =
    elim (cases_place first xs k x at) [
      | inl here ↦ in_front (f first) (ap f here.1 ∙ gives)
      | inr later ↦ behind (f first) (kept_at f xs later.0 x y later.2 gives)
    ]
  where
    in_front : (o : Option Y) → o ≡ Some y → (j : ℕ) × (slice_get (cons_option o (filter_map f xs)) j ≡ Some y)
    in_front None g = cc
    in_front (Some z) g = (0, g)

    behind : (o : Option Y) → ((j : ℕ) × (slice_get (filter_map f xs) j ≡ Some y)) → (j : ℕ) × (slice_get (cons_option o (filter_map f xs)) j ≡ Some y)
    behind None more = more
    behind (Some z) more = (suc more.0, more.1)

-- an item that a test leaves is one that passes it
pub got_filtered : {X : Type 0} (test : X → Bool) (xs : List X) (m : ℕ) (x : X) → slice_get (filter test xs) m ≡ Some x → (k : ℕ) × (slice_get xs k ≡ Some x) × (test x ≡ true)
got_filtered test [] m x h = cc
got_filtered test (y ∷ ys) m x h =
    elim (cases_Bool (test y)) [
      | inl passes ↦
          elim (cases_place y (filter test ys) m x (subst (λ b. slice_get (cond b (y ∷ filter test ys) (filter test ys)) m ≡ Some x) passes h)) [
            | inl here ↦ (0, ap Some here.1, subst (λ z. test z ≡ true) here.1 passes)
            | inr later ↦ let more = got_filtered test ys later.0 x later.2 in (suc more.0, more.1, more.2)
          ]
      | inr fails ↦
          let more = got_filtered test ys m x (subst (λ b. slice_get (cond b (y ∷ filter test ys) (filter test ys)) m ≡ Some x) fails h) in
          (suc more.0, more.1, more.2)
    ]

-- a place of a front of a list
pub got_taken : {X : Type 0} (n : ℕ) (xs : List X) (k : ℕ) (x : X) → slice_get (take n xs) k ≡ Some x → (k < n) × (slice_get xs k ≡ Some x)
got_taken zero xs k x h = cc
got_taken (suc n) [] k x h = cc
got_taken (suc n) (y ∷ ys) zero x h = (omega arith, h)
got_taken (suc n) (y ∷ ys) (suc k) x h = let more = got_taken n ys k x h in (omega (arith, more.0), more.1)

-- a place of what is behind a front
pub got_dropped : {X : Type 0} (n : ℕ) (xs : List X) (k : ℕ) (x : X) → slice_get (drop n xs) k ≡ Some x → slice_get xs (n + k) ≡ Some x
got_dropped zero xs k x h =
    let same : k ≡ 0 + k = omega arith in
    subst (λ (m : ℕ). slice_get xs m ≡ Some x) same h
got_dropped (suc n) [] k x h = cc
got_dropped (suc n) (y ∷ ys) k x h =
    let same : suc (n + k) ≡ suc n + k = omega arith in
    subst (λ (m : ℕ). slice_get (y ∷ ys) m ≡ Some x) same (got_dropped n ys k x h)

-- the numbers of a range
pub got_ranged : (a n k x : ℕ) → slice_get (range_with_len a n) k ≡ Some x → (x ≡ a + k) × (k < n)
got_ranged a zero k x h = cc
got_ranged a (suc n) zero x h = let same : a ≡ x = same_Some a x h in (omega (arith, same), omega arith)
got_ranged a (suc n) (suc k) x h =
    let more = got_ranged (a + 1) n k x h in (omega (arith, more.0), omega (arith, more.1))

pub ranged_at : (a n k : ℕ) → k < n → slice_get (range_with_len a n) k ≡ Some (a + k)
ranged_at a zero k below = absurd (omega arith)
ranged_at a (suc n) zero below = ap Some (omega arith)
ranged_at a (suc n) (suc k) below =
    let same : (a + 1) + k ≡ a + suc k = omega arith in
    ranged_at (a + 1) n k (omega arith) ∙ ap Some same

-- the item at a place of a list that was made item by item
pub got_made : {X Y : Type 0} (f : X → Y) (xs : List X) (k : ℕ) (y : Y) → slice_get (map f xs) k ≡ Some y → (x : X) × (slice_get xs k ≡ Some x) × (f x ≡ y)
got_made f [] k y h = cc
got_made f (x ∷ xs) zero y h = (x, refl, same_Some (f x) y h)
got_made f (x ∷ xs) (suc k) y h = got_made f xs k y h

pub made_at : {X Y : Type 0} (f : X → Y) (xs : List X) (k : ℕ) (x : X) → slice_get xs k ≡ Some x → slice_get (map f xs) k ≡ Some (f x)
made_at f xs k x at = slice_get-map f xs k ∙ ap (option_map f) at

-- where nothing is kept of a numbered list, nothing is given of any item
pub none_kept : {X Y : Type 0} (f : ℕ × X → Option Y) (n : ℕ) (xs : List X) (k : ℕ) (x : X) → filter_map f (enumerate_from n xs) ≡ [] → slice_get xs k ≡ Some x → f (n + k, x) ≡ None
none_kept {Y = Y} f n [] k x h at = cc
none_kept {Y = Y} f n (y ∷ ys) k x h at =
    elim (cases_place y ys k x at) [
      | inl here ↦
          let same : n ≡ n + k = omega (arith, here.0) in
          subst (λ (m : ℕ). f (m, x) ≡ None) same (subst (λ z. f (n, z) ≡ None) here.1 parts.0)
      | inr later ↦
          let same : (n + 1) + later.0 ≡ n + k = omega (arith, later.1) in
          subst (λ (m : ℕ). f (m, x) ≡ None) same (none_kept f (n + 1) ys later.0 x parts.1 later.2)
    ]
  where
    none_of : (o : Option Y) (rest : List Y) → cons_option o rest ≡ [] → (o ≡ None) × (rest ≡ [])
    none_of None rest g = (refl, g)
    none_of (Some z) rest g = cc

    parts : (f (n, y) ≡ None) × (filter_map f (enumerate_from (n + 1) ys) ≡ [])
    parts = none_of (f (n, y)) (filter_map f (enumerate_from (n + 1) ys)) h

-- where nothing is given of any item of a numbered list, nothing is kept
pub keeps_none : {X Y : Type 0} (f : ℕ × X → Option Y) (n : ℕ) (xs : List X) → ((k : ℕ) (x : X) → slice_get xs k ≡ Some x → f (n + k, x) ≡ None) → filter_map f (enumerate_from n xs) ≡ []
keeps_none f n [] each = refl
keeps_none f n (y ∷ ys) each =
    let start : n + 0 ≡ n = omega arith in
    let first : f (n, y) ≡ None = subst (λ (m : ℕ). f (m, y) ≡ None) start (each 0 y refl) in
    ap (λ o. cons_option o (filter_map f (enumerate_from (n + 1) ys))) first
    ∙ keeps_none f (n + 1) ys (λ k x at. let same : n + suc k ≡ (n + 1) + k = omega arith in subst (λ (m : ℕ). f (m, x) ≡ None) same (each (suc k) x at))

-- a place of a list, in a longer one
pub got_longer : {X : Type 0} (xs ys : List X) (k : ℕ) → k < length xs → slice_get (xs ++ ys) k ≡ slice_get xs k
got_longer [] ys k below = absurd (omega (arith, below))
got_longer (x ∷ xs) ys zero below = refl
got_longer (x ∷ xs) ys (suc k) below = got_longer xs ys k (omega (arith, below))

-- what was added last
pub got_last : {X : Type 0} (xs : List X) (x : X) → slice_get (xs ++ x ∷ []) (length xs) ≡ Some x
got_last [] x = refl
got_last (y ∷ xs) x = got_last xs x

-- what was written at a place
pub got_set : {X : Type 0} (xs : List X) (k : ℕ) (x : X) → k < length xs → slice_get (set xs k x) k ≡ Some x
got_set [] k x below = absurd (omega (arith, below))
got_set (y ∷ xs) zero x below = refl
got_set (y ∷ xs) (suc k) x below = got_set xs k x (omega (arith, below))

-- no place of no items
pub nothing_at : {X : Type 0} (xs : List X) (k : ℕ) (x : X) → xs ≡ [] → slice_get xs k ≡ Some x → ⊥
nothing_at {X} xs k x none at =
    let there : None ≡ Some x = sym (ap (λ (ys : List X). slice_get ys k) none) ∙ at in cc
