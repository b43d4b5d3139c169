-- Lists of things that a test doesn't tell from one another.
use Rattle.std.proofs.Common.{◌≡◌, List, [], ◌∷◌, map, Bool, true, false, cond, ◌&&◌, ◌||◌, refl, ap, ◌∙◌}
use Rattle.std.specs.Prelude.{Some}
use Rattle.std.specs.List.{list_any, list_all}
use Rattle.std.specs.Option.{option_map}
use Rattle.jr_after.specs.Findings.{first_such}

pub any_alike : {X Y : Type 0} (a b : X → Y) (f g : Y → Bool) → ((x : X) → f (a x) ≡ g (b x)) → (xs : List X) → list_any f (map a xs) ≡ list_any g (map b xs)
any_alike a b f g same [] = refl
any_alike a b f g same (x ∷ xs) =
    ap (λ (t : Bool). t || list_any f (map a xs)) (same x) ∙ ap (λ (t : Bool). g (b x) || t) (any_alike a b f g same xs)

pub all_alike : {X : Type 0} (f g : X → Bool) → ((x : X) → f x ≡ g x) → (xs : List X) → list_all f xs ≡ list_all g xs
all_alike f g same [] = refl
all_alike f g same (x ∷ xs) = ap (λ (t : Bool). t && list_all f xs) (same x) ∙ ap (λ (t : Bool). g x && t) (all_alike f g same xs)

-- the first of a list of images is the image of the first
pub first_map : {X Y : Type 0} (a : X → Y) (f : Y → Bool) (xs : List X) → first_such f (map a xs) ≡ option_map a (first_such (λ (x : X). f (a x)) xs)
first_map a f [] = refl
first_map {X} {Y} a f (x ∷ xs) = by_test (f (a x)) (first_map a f xs)
  where
    by_test : (t : Bool) → first_such f (map a xs) ≡ option_map a (first_such (λ (x : X). f (a x)) xs) → cond t (Some (a x)) (first_such f (map a xs)) ≡ option_map a (cond t (Some x) (first_such (λ (x : X). f (a x)) xs))
    by_test true h = refl
    by_test false h = h

pub first_alike : {X : Type 0} (f g : X → Bool) → ((x : X) → f x ≡ g x) → (xs : List X) → first_such f xs ≡ first_such g xs
first_alike f g same [] = refl
first_alike f g same (x ∷ xs) =
    ap (λ t. cond t (Some x) (first_such f xs)) (same x) ∙ ap (λ o. cond (g x) (Some x) o) (first_alike f g same xs)
