-- The writes of a clone or of a pass, one step further.
use Rattle.std.proofs.Common.{◌≡◌, ℕ, zero, suc, ◌+◌, ◌-◌, ◌<◌, List, [], ◌∷◌, ◌++◌, filter_map, flat_map, refl, ap, sym, ◌∙◌, arith, append_assoc, append-nil, zero-add}
use Rattle.std.specs.Prelude.{Option, Some, None}
use Rattle.std.specs.List.{range_with_len, cons_option}
use Rattle.std.specs.Option.{option_to_list}
use Rattle.std.proofs.lemmas.Grind.{flat_map-append}
use Rattle.jr_model.proofs.ListLemmas.{range_more}

-- one number more
pub range_further : {A : Type 0} (f : ℕ → List A) (n : ℕ) (first done next : List A) → done ≡ first ++ flat_map f (range_with_len 0 n) → next ≡ done ++ f n → next ≡ first ++ flat_map f (range_with_len 0 (n + 1))
range_further {A = A} f n first done next so_far is =
    let one : n + 1 ≡ suc n = omega arith in
    let last : range_with_len 0 (n + 1) ≡ range_with_len 0 n ++ n ∷ [] =
    ap (range_with_len 0) one ∙ range_more 0 n ∙ ap (λ k. range_with_len 0 n ++ k ∷ []) (zero-add n) in
    let all : flat_map f (range_with_len 0 (n + 1)) ≡ flat_map f (range_with_len 0 n) ++ f n =
    ap (flat_map f) last ∙ flat_map-append f (range_with_len 0 n) (n ∷ []) ∙ ap (λ (xs : List A). flat_map f (range_with_len 0 n) ++ xs) (append-nil (f n)) in
    is ∙ ap (λ (xs : List A). xs ++ f n) so_far ∙ append_assoc first (flat_map f (range_with_len 0 n)) (f n) ∙ ap (λ (xs : List A). first ++ xs) (sym all)

cons_kept : {Y : Type 0} (kept : Option Y) (ys : List Y) → cons_option kept ys ≡ option_to_list kept ++ ys
cons_kept None ys = refl
cons_kept (Some y) ys = refl

-- what is kept of a list's first element, and of the others
kept_first : {X Y : Type 0} (h : X → Option Y) (x : X) (xs : List X) (kept : Option Y) → h x ≡ kept → filter_map h (x ∷ xs) ≡ option_to_list kept ++ filter_map h xs
kept_first {X = X} {Y = Y} h x xs kept is = ap (λ (k : Option Y). cons_option k (filter_map h xs)) is ∙ cons_kept kept (filter_map h xs)

-- where nothing is left, what was given is all
pub given_all : {X Y : Type 0} (h : X → Option Y) (given : List Y) (left : List X) (all : List Y) → given ++ filter_map h left ≡ all → left ≡ [] → given ≡ all
given_all {X = X} {Y = Y} h given left all so_far none =
    sym (append-nil given) ∙ ap (λ (xs : List X). given ++ filter_map h xs) (sym none) ∙ so_far

-- nothing is left of one draw or more, so nothing is left
pub none_left : {X : Type 0} (left : ℕ → List X) (k : ℕ) → 0 < k → ((n : ℕ) → left (suc n) ≡ []) → left k ≡ []
none_left left zero h none = absurd (omega (arith, h))
none_left left (suc n) h none = none n

-- one more is given
pub given_more : {X Y : Type 0} (h : X → Option Y) (left after : ℕ → List X) (most i : ℕ) (x : X) (given more all : List Y) → i < most → ((n : ℕ) → left (suc n) ≡ x ∷ after n) → more ≡ given ++ option_to_list (h x) → given ++ filter_map h (left (most - i)) ≡ all → more ++ filter_map h (after (most - (i + 1))) ≡ all
given_more {X = X} {Y = Y} h left after most i x given more all within next pushed so_far =
    let n : ℕ = most - (i + 1) in
    let one : suc n ≡ most - i = omega (arith, within) in
    ap (λ (ys : List Y). ys ++ filter_map h (after n)) pushed
    ∙ append_assoc given (option_to_list (h x)) (filter_map h (after n))
    ∙ ap (λ (ys : List Y). given ++ ys) (sym (kept_first h x (after n) (h x) refl) ∙ ap (filter_map h) (sym (next n) ∙ ap left one))
    ∙ so_far
