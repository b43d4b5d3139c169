-- Lists gone through one item after another, and lists by a test of each item.
use Rattle.std.proofs.Common.{◌≡◌, ℕ, zero, suc, ◌+◌, ◌≤◌, ◌<◌, List, [], ◌∷◌, ◌++◌, length, map, take, get_or, Bool, true, false, cond, ◌||◌, not, refl, sym, ap, ◌∙◌, arith, subst, add-one}
use Rattle.std.specs.Prelude.{Option, Some, slice_get, ◌==◌, All, filter_map, flat_map, option_to_list}
use Rattle.std.specs.List.{list_all, list_any, enumerate_from, range_with_len, slice_split, onto_first, position_or_len}
use Rattle.std.proofs.lemmas.Bool.{and_parts, and_from, eqb-true, not-true}
use Rattle.std.proofs.lemmas.List.{flat_map_more, take_more}
use Rattle.std.proofs.lemmas.List.Elements.{filter_map-append}
use Rattle.std.proofs.lemmas.List.Folds.{list_any_more}
use Rattle.std.proofs.lemmas.List.Splits.{slice_split_none}
use Rattle.std.proofs.lemmas.List.Sums.{prefix_len_passes}
use Rattle.std.proofs.lemmas.Option.{get_or_from_slice_get, slice_get_within}
use Rattle.jr_model.proofs.OptionLemmas.{one_listed}

-- no item
pub none_by_length : {X : Type 0} (xs : List X) → (length xs == 0) ≡ true → xs ≡ []
none_by_length [] h = refl
none_by_length (x ∷ xs) h = absurd (omega (arith, eqb-true (length (x ∷ xs)) 0 h))

-- one more that doesn't pass
pub none_more : {X : Type 0} (p : X → Bool) (xs : List X) (i : ℕ) (x : X) → slice_get xs i ≡ Some x → p x ≡ false
    → list_any p (take i xs) ≡ false → list_any p (take (i + 1) xs) ≡ false
none_more p xs i x there fails none =
    list_any_more p xs i x (slice_get_within xs i x there)
    ∙ ap (λ b. b || p (get_or xs i x)) none
    ∙ ap p (get_or_from_slice_get xs i x x there)
    ∙ fails

-- what all pass, they pass a weaker test too
pub all_weaker : {X : Type 0} (p q : X → Bool) (xs : List X) → ((x : X) → p x ≡ true → q x ≡ true) → list_all p xs ≡ true
    → list_all q xs ≡ true
all_weaker p q [] weaker h = refl
all_weaker p q (x ∷ xs) weaker h =
    let parts = and_parts (p x) (list_all p xs) h in
    and_from (q x) (list_all q xs) (weaker x parts.0) (all_weaker p q xs weaker parts.1)

-- what holds of all holds of the item at a place
pub all_got : {X : Type 0} (P : X → Type 0) (xs : List X) (k : ℕ) (x : X) → All P xs → slice_get xs k ≡ Some x → P x
all_got P xs k x all at = subst P (get_or_from_slice_get xs k x x at) (all k x (slice_get_within xs k x at))

pub All-from_test : {X : Type 0} (test : X → Bool) (xs : List X) → list_all test xs ≡ true → All (λ x. test x ≡ true) xs
All-from_test test [] h k d l = absurd (omega (arith, l))
All-from_test test (x ∷ xs) h zero d l = (and_parts (test x) (list_all test xs) h).0
All-from_test test (x ∷ xs) h (suc k) d l =
    All-from_test test xs (and_parts (test x) (list_all test xs) h).1 k d (omega (arith, l))

-- what is made of the items so far, and of one more
map_more-suc : {X Y : Type 0} (f : X → Y) (xs : List X) (i : ℕ) (x : X) → slice_get xs i ≡ Some x
    → map f (take (suc i) xs) ≡ map f (take i xs) ++ f x ∷ []
map_more-suc f [] i x at = absurd (cc)
map_more-suc f (y ∷ xs) zero x at = let e : y ≡ x = cc in ap (λ z. f z ∷ []) e
map_more-suc f (y ∷ xs) (suc i) x at = ap (λ zs. f y ∷ zs) (map_more-suc f xs i x at)

pub map_more : {X Y : Type 0} (f : X → Y) (xs : List X) (i : ℕ) (x : X) → slice_get xs i ≡ Some x
    → map f (take (i + 1) xs) ≡ map f (take i xs) ++ f x ∷ []
map_more f xs i x at = rw add-one (map_more-suc f xs i x at)

pub filter_map_more : {X Y : Type 0} (f : X → Option Y) (xs : List X) (i : ℕ) (d : X) → i < length xs
    → filter_map f (take (i + 1) xs) ≡ filter_map f (take i xs) ++ option_to_list (f (get_or xs i d))
filter_map_more f xs i d within =
    ap (filter_map f) (take_more xs i d within)
    ∙ filter_map-append f (take i xs) (get_or xs i d ∷ [])
    ∙ ap (λ ys. filter_map f (take i xs) ++ ys) (one_listed (f (get_or xs i d)))

-- a numbered list, and a range, with one more
pub enumerate_more : {X : Type 0} (n : ℕ) (xs : List X) (x : X)
    → enumerate_from n (xs ++ x ∷ []) ≡ enumerate_from n xs ++ (n + length xs, x) ∷ []
enumerate_more n [] x = let same : n ≡ n + 0 = omega arith in ap (λ (k : ℕ). (k, x) ∷ []) same
enumerate_more {X} n (y ∷ ys) x =
    let same : (n + 1) + length ys ≡ n + suc (length ys) = omega arith in
    ap (λ (zs : List (ℕ × X)). (n, y) ∷ zs) (enumerate_more (n + 1) ys x)
    ∙ ap (λ (k : ℕ). (n, y) ∷ (enumerate_from (n + 1) ys ++ (k, x) ∷ [])) same

pub range_more : (a n : ℕ) → range_with_len a (suc n) ≡ range_with_len a n ++ (a + n) ∷ []
range_more a zero = ap (λ k. k ∷ []) (let e : a ≡ a + 0 = omega arith in e)
range_more a (suc n) =
    ap (λ (ks : List ℕ). a ∷ ks)
    (range_more (a + 1) n ∙ ap (λ k. range_with_len (a + 1) n ++ k ∷ []) (let e : a + 1 + n ≡ a + suc n = omega arith in e))

-- a text with no place to split it is one part
pub one_part : (p : ℕ → Bool) (text : List ℕ) → length text ≤ position_or_len p text → slice_split p text ≡ text ∷ []
one_part p text long =
    slice_split_none p text
    (λ k d l. not-true (p (get_or text k d)) (prefix_len_passes (λ b. not (p b)) text k d (omega (arith, long, l))))

-- a list that is cut has a first part
pub first_part : {X : Type 0} (p : X → Bool) (xs : List X) → (part : List X) × (parts : List (List X)) × (slice_split p xs ≡ part ∷ parts)
first_part p [] = ([], [], refl)
first_part {X} p (x ∷ xs) = by_test (p x) (slice_split p xs)
  where
    by_test : (b : Bool) (rest : List (List X)) → (part : List X) × (parts : List (List X)) × (cond b ([] ∷ rest) (onto_first x rest) ≡ part ∷ parts)
    by_test true rest = ([], rest, refl)
    by_test false [] = (x ∷ [], [], refl)
    by_test false (part ∷ parts) = (x ∷ part, parts, refl)

-- what was written of the items so far, and of one more
pub flat_map_so_far : {X : Type 0} (line : X → List ℕ) (start before after : List ℕ) (xs : List X) (i : ℕ) (d : X) → i < length xs
    → before ≡ start ++ flat_map line (take i xs) → after ≡ before ++ line (get_or xs i d)
    → after ≡ start ++ flat_map line (take (i + 1) xs)
flat_map_so_far {X} line start before after xs i d within so more =
    more
    ∙ ap (λ (t : List ℕ). t ++ line (get_or xs i d)) so
    ∙ flat_map_more line start (take i xs) (get_or xs i d)
    ∙ ap (λ (ys : List X). start ++ flat_map line ys) (sym (take_more xs i d within))
