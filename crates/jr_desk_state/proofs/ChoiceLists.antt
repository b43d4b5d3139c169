-- The first that a search over a list gives.
use Rattle.std.proofs.Common.{◌≡◌, ℕ, zero, suc, ◌+◌, ◌-◌, ◌<◌, ◌≤◌, List, [], ◌∷◌, length, drop, drop-drop, get_or, true, false, refl, ◌∙◌, arith}
use Rattle.std.proofs.Common.{ap, subst}
use Rattle.std.specs.Prelude.{Option, Some, None, slice_get, is_some}
use Rattle.std.specs.Option.{option_or}
use Rattle.std.proofs.lemmas.Option.{slice_get_read}
use Rattle.jr_model.specs.History.{first_given}
use Rattle.jr_model.proofs.PlaceLemmas.{got_dropped}

-- what was read of a list is there
pub read_at : {X : Type 0} (xs ys : List X) (i : ℕ) (x : X) → xs ≡ ys → i < length xs → x ≡ get_or xs i x → slice_get ys i ≡ Some x
read_at {X} xs ys i x same below is = subst (λ (zs : List X). slice_get zs i ≡ Some x) same
    (slice_get_read xs (length xs) i x refl below is)

-- from a place on, the first is that of its item or of those behind it
pub given_from : {X Y : Type 0} (f : X → Option Y) (xs : List X) (k : ℕ) (x : X) → slice_get xs k ≡ Some x
    → first_given f (drop k xs) ≡ option_or (f x) (first_given f (drop (suc k) xs))
given_from f [] k x at = cc
given_from f (y ∷ ys) zero x at = ap (λ z. option_or (f z) (first_given f ys)) (same y x at)
  where
    same : {X : Type 0} (y x : X) → Some y ≡ Some x → y ≡ x
    same y x h = cc
given_from f (y ∷ ys) (suc k) x at = given_from f ys k x at

here_or : {Y : Type 0} (o rest : Option Y) → is_some o ≡ true → option_or o rest ≡ o
here_or None rest some = cc
here_or (Some y) rest some = refl

none_here : {Y : Type 0} (o rest : Option Y) → is_some o ≡ false → option_or o rest ≡ rest
none_here None rest none = refl
none_here (Some y) rest none = cc

-- so it is its item's where that gives something
pub given_here : {X Y : Type 0} (f : X → Option Y) (xs : List X) (k : ℕ) (x : X) → slice_get xs k ≡ Some x
    → first_given f xs ≡ first_given f (drop k xs) → is_some (f x) ≡ true → first_given f xs ≡ f x
given_here f xs k x at so_far some = so_far ∙ given_from f xs k x at ∙ here_or (f x) (first_given f (drop (suc k) xs)) some

-- and else it is behind it
pub given_behind : {X Y : Type 0} (f : X → Option Y) (xs : List X) (k : ℕ) (x : X) → slice_get xs k ≡ Some x
    → first_given f xs ≡ first_given f (drop k xs) → is_some (f x) ≡ false → first_given f xs ≡ first_given f (drop (suc k) xs)
given_behind f xs k x at so_far none = so_far ∙ given_from f xs k x at ∙ none_here (f x) (first_given f (drop (suc k) xs)) none

none_past : {X Y : Type 0} (f : X → Option Y) (xs : List X) (k : ℕ) → slice_get xs k ≡ None → first_given f (drop k xs) ≡ None
none_past f [] zero past = refl
none_past f [] (suc k) past = refl
none_past f (y ∷ ys) zero past = cc
none_past f (y ∷ ys) (suc k) past = none_past f ys k past

-- nothing is given where the list is over
pub given_nowhere : {X Y : Type 0} (f : X → Option Y) (xs : List X) (k : ℕ) → slice_get xs k ≡ None
    → first_given f xs ≡ first_given f (drop k xs) → first_given f xs ≡ None
given_nowhere f xs k past so_far = so_far ∙ none_past f xs k past

-- where the first n items give nothing, it is the first of those from n on
pub given_past : {X Y : Type 0} (f : X → Option Y) (xs : List X) (n : ℕ)
    → ((k : ℕ) (x : X) → k < n → slice_get xs k ≡ Some x → f x ≡ None) → first_given f xs ≡ first_given f (drop n xs)
given_past f xs zero none = refl
given_past f [] (suc n) none = refl
given_past {X = X} {Y = Y} f (x ∷ xs) (suc n) none =
    ap (λ (o : Option Y). option_or o (first_given f xs)) (none 0 x (omega arith) refl)
    ∙ given_past f xs n (λ k y below at. none (suc k) y (omega (arith, below)) at)

-- so it is where those between two places give nothing
pub given_between : {X Y : Type 0} (f : X → Option Y) (xs : List X) (m n : ℕ) → m ≤ n → first_given f xs ≡ first_given f (drop m xs)
    → ((k : ℕ) (x : X) → m ≤ k → k < n → slice_get xs k ≡ Some x → f x ≡ None) → first_given f xs ≡ first_given f (drop n xs)
given_between f xs m n le so_far none =
    so_far
    ∙ given_past f (drop m xs) (n - m)
    (λ k x before at. none (m + k) x (omega arith) (omega (arith, le, before)) (got_dropped m xs k x at))
    ∙ ap (first_given f) (drop-drop (n - m) m xs ∙ ap (λ (i : ℕ). drop i xs) (omega (arith, le)))
