-- Lists searched in order: what a search gives where one place alone gives, or where a list of some of its items gives the
-- same.
use Rattle.std.proofs.Common.{◌≡◌, ℕ, zero, suc, ◌+◌, ◌<◌, ◌≤◌, List, [], ◌∷◌, length, map, Bool, true, false, cond, refl, sym, ◌∙◌, ap, subst, arith, inl, inr}
use Rattle.std.specs.Prelude.{◌⊎◌, Option, Some, None, slice_get, filter, filter_map, nat_lt, ◌==◌}
use Rattle.std.specs.Option.{option_or}
use Rattle.std.specs.List.{list_any, cons_option, enumerate_from}
use Rattle.std.proofs.lemmas.Bool.{cases_eq, lt-ltb, ltb-true}
use Rattle.std.proofs.lemmas.Option.{same_Some}
use Rattle.jr_model.specs.declared.workloads.Draw.{Draw}
use Rattle.jr_model.specs.History.{first_given}
use Rattle.jr_laws_steps.proofs.GroupLaws.{AreNumbered}
use Rattle.jr_model.proofs.PlaceLemmas.{none_given}
use Rattle.jr_laws_quiet.proofs.Groups.{Rising, rising_weaker, rank, rank_at, rank_self}

-- where nothing is given of any item, the search gives nothing
pub nothing_given : {X Y : Type 0} (f : X → Option Y) (xs : List X) → ((k : ℕ) (x : X) → slice_get xs k ≡ Some x → f x ≡ None) → first_given f xs ≡ None
nothing_given f [] each = refl
nothing_given f (x ∷ xs) each =
    ap (λ o. option_or o (first_given f xs)) (each 0 x refl) ∙ nothing_given f xs (λ k y at. each (suc k) y at)

-- what is given of the first item of which something is
pub first_is : {X Y : Type 0} (f : X → Option Y) (xs : List X) (k : ℕ) (x : X) (v : Y) → slice_get xs k ≡ Some x → f x ≡ Some v → ((j : ℕ) (y : X) → j < k → slice_get xs j ≡ Some y → f y ≡ None) → first_given f xs ≡ Some v
first_is f [] k x v at gives before = cc
first_is f (y ∷ ys) zero x v at gives before =
    ap (λ o. option_or o (first_given f ys)) (subst (λ z. f z ≡ Some v) (sym (same_Some y x at)) gives)
first_is f (y ∷ ys) (suc k) x v at gives before =
    ap (λ o. option_or o (first_given f ys)) (before 0 y (omega arith) refl)
    ∙ first_is f ys k x v at gives (λ j z below there. before (suc j) z (omega (arith, below)) there)

-- the first item of which something is given, and that nothing is given of those before it
pub record FirstGiven {X Y : Type 0} (f : X → Option Y) (xs : List X) (y : Y) : Type 0 where
  pub place : ℕ
  pub item : X
  pub at : slice_get xs place ≡ Some item
  pub gives : f item ≡ Some y
  pub before : (j : ℕ) (z : X) → j < place → slice_get xs j ≡ Some z → f z ≡ None

pub found_first : {X Y : Type 0} (f : X → Option Y) (xs : List X) (y : Y) → first_given f xs ≡ Some y → FirstGiven f xs y
found_first f [] y h = cc
found_first {X = X} {Y = Y} f (x ∷ xs) y h = by_first (λ g. found_first f xs y g) (f x) refl
  where
    rest_gives : (o : Option Y) → o ≡ None → option_or o (first_given f xs) ≡ Some y → first_given f xs ≡ Some y
    rest_gives None e g = g
    rest_gives (Some v) e g = cc

    this_gives : (o : Option Y) (v : Y) → o ≡ Some v → option_or o (first_given f xs) ≡ Some y → o ≡ Some y
    this_gives None v e g = cc
    this_gives (Some u) v e g = g

    earlier : (none : f x ≡ None) (rest : FirstGiven f xs y) (j : ℕ) (z : X) → j < suc rest.place → slice_get (x ∷ xs) j ≡ Some z → f z ≡ None
    earlier none rest zero z below at = subst (λ (w : X). f w ≡ None) (same_Some x z at) none
    earlier none rest (suc j) z below at = rest.before j z (omega (arith, below)) at

    by_first : (first_given f xs ≡ Some y → FirstGiven f xs y) → (o : Option Y) → f x ≡ o → FirstGiven f (x ∷ xs) y
    by_first more None e =
        let rest = more (rest_gives (f x) e h) in
        record { place = suc rest.place; item = rest.item; at = rest.at; gives = rest.gives; before = earlier e rest }
    by_first more (Some v) e =
        record { place = 0; item = x; at = refl; gives = this_gives (f x) v e h; before = λ j z below at. absurd (omega (arith, below)) }

-- where something is given at one place alone, the search gives what is given there
pub only_at : {X Y : Type 0} (f : X → Option Y) (xs : List X) (k : ℕ) (x : X) → slice_get xs k ≡ Some x → ((j : ℕ) (y : X) → (j ≡ k → ⊥) → slice_get xs j ≡ Some y → f y ≡ None) → first_given f xs ≡ f x
only_at {X = X} {Y = Y} f xs k x at others = by_given (f x) refl
  where
    same_item : (j : ℕ) (y : X) → j ≡ k → slice_get xs j ≡ Some y → x ≡ y
    same_item j y same there = same_Some x y (sym at ∙ ap (slice_get xs) (sym same) ∙ there)

    by_given : (o : Option Y) → f x ≡ o → first_given f xs ≡ o
    by_given None none =
        nothing_given f xs (λ j y there.
        elim (cases_eq j k) [
          | inl same ↦ subst (λ z. f z ≡ None) (same_item j y same there) none
          | inr differs ↦ others j y differs there
        ])
    by_given (Some v) gives = first_is f xs k x v at gives (λ j y below there. others j y (λ same. omega (arith, below, same)) there)

-- a search over a list that was made item by item
pub given_of_made : {X Y Z : Type 0} (g : Y → Option Z) (h : X → Y) (xs : List X) → first_given g (map h xs) ≡ first_given (λ x. g (h x)) xs
given_of_made g h [] = refl
given_of_made g h (x ∷ xs) = ap (option_or (g (h x))) (given_of_made g h xs)

-- the draws that a test leaves rise where all do
pub rising_kept : (p : Draw → Bool) (n : ℕ) (xs : List Draw) → Rising n xs → Rising n (filter p xs)
rising_kept p n [] h = tt
rising_kept p n (x ∷ xs) h = by_case (p x) h.0 (rising_kept p (suc x.number) xs h.1)
  where
    by_case : (b : Bool) → n ≤ x.number → Rising (suc x.number) (filter p xs) → Rising n (cond b (x ∷ filter p xs) (filter p xs))
    by_case true first rest = (first, rest)
    by_case false first rest = rising_weaker n (suc x.number) (filter p xs) (omega (arith, first)) rest

-- of two draws of a list that rises, the one with the lower number stands first
pub rising_places : (zs : List Draw) (i j : ℕ) (a b : Draw) → Rising 0 zs → slice_get zs i ≡ Some a → slice_get zs j ≡ Some b → a.number < b.number → i < j
rising_places zs i j a b rises at_i at_j below =
    let there : nat_lt i (rank zs b.number) ≡ true = sym (rank_at 0 b.number zs i a rises at_i) ∙ lt-ltb a.number b.number below in
    let place : rank zs b.number ≡ j = rank_self 0 zs j b rises at_j in
    let first : i < rank zs b.number = ltb-true i (rank zs b.number) there in
    omega (arith, first, place)

-- a search over numbered draws gives what a search over some of them does, where nothing is given of the others
pub record GivesSame {Y : Type 0} (f g : Draw → Option Y) (xs zs : List Draw) : Type 0 where
  pub numbered : AreNumbered 0 xs
  pub rises : Rising 0 zs
  pub among : (j : ℕ) (z : Draw) → slice_get zs j ≡ Some z → slice_get xs z.number ≡ Some z
  pub same : (j : ℕ) (z : Draw) → slice_get zs j ≡ Some z → f z ≡ g z
  pub others : (k : ℕ) (x : Draw) → slice_get xs k ≡ Some x → (f x ≡ None) ⊎ ((j : ℕ) × (slice_get zs j ≡ Some x))

pub gives_same : {Y : Type 0} (f g : Draw → Option Y) (xs zs : List Draw) → GivesSame f g xs zs → first_given f xs ≡ first_given g zs
gives_same {Y = Y} f g xs zs both = by_given (first_given g zs) refl
  where
    none_of : first_given g zs ≡ None → (k : ℕ) (x : Draw) → slice_get xs k ≡ Some x → f x ≡ None
    none_of none k x at =
        elim (both.others k x at) [
          | inl nothing ↦ nothing
          | inr there ↦ both.same there.0 x there.1 ∙ none_given g zs there.0 x none there.1
        ]

    none_before : (v : Y) (found : FirstGiven g zs v) (k : ℕ) (x : Draw) → k < found.item.number → slice_get xs k ≡ Some x → f x ≡ None
    none_before v found k x below at =
        elim (both.others k x at) [
          | inl nothing ↦ nothing
          | inr there ↦
              let number : x.number ≡ 0 + k = both.numbered k x at in
              let lower : x.number < found.item.number = omega (arith, number, below) in
              both.same there.0 x there.1
              ∙ found.before there.0 x (rising_places zs there.0 found.place x found.item both.rises there.1 found.at lower) there.1
        ]

    by_given : (o : Option Y) → first_given g zs ≡ o → first_given f xs ≡ o
    by_given None none = nothing_given f xs (none_of none)
    by_given (Some v) some =
        let found = found_first g zs v some in
        first_is f xs found.item.number found.item v (both.among found.place found.item found.at)
        (both.same found.place found.item found.at ∙ found.gives)
        (none_before v found)

-- an item that is kept of a numbered list is given of one of its items
pub got_kept : {X Y : Type 0} (f : ℕ × X → Option Y) (n : ℕ) (xs : List X) (k : ℕ) (y : Y) → slice_get (filter_map f (enumerate_from n xs)) k ≡ Some y → (id : ℕ) × (x : X) × (slice_get xs id ≡ Some x) × (f (n + id, x) ≡ Some y)
got_kept f n [] k y at = cc
got_kept {X = X} {Y = Y} f n (x ∷ xs) k y at = by_first (f (n, x)) refl k at (λ j there. got_kept f (n + 1) xs j y there)
  where
    here : (v : Y) → f (n, x) ≡ Some v → v ≡ y → (id : ℕ) × (z : X) × (slice_get (x ∷ xs) id ≡ Some z) × (f (n + id, z) ≡ Some y)
    here v gives is =
        let start : n ≡ n + 0 = omega arith in
        (0, x, refl, subst (λ (m : ℕ). f (m, x) ≡ Some y) start (gives ∙ ap Some is))

    behind : (id : ℕ) × (z : X) × (slice_get xs id ≡ Some z) × (f ((n + 1) + id, z) ≡ Some y) → (id : ℕ) × (z : X) × (slice_get (x ∷ xs) id ≡ Some z) × (f (n + id, z) ≡ Some y)
    behind found =
        let same : (n + 1) + found.0 ≡ n + suc found.0 = omega arith in
        (suc found.0, found.1, found.2, subst (λ (m : ℕ). f (m, found.1) ≡ Some y) same found.3)

    by_first : (o : Option Y) → f (n, x) ≡ o → (j : ℕ) → slice_get (cons_option o (filter_map f (enumerate_from (n + 1) xs))) j ≡ Some y → ((i : ℕ) → slice_get (filter_map f (enumerate_from (n + 1) xs)) i ≡ Some y → (id : ℕ) × (z : X) × (slice_get xs id ≡ Some z) × (f ((n + 1) + id, z) ≡ Some y)) → (id : ℕ) × (z : X) × (slice_get (x ∷ xs) id ≡ Some z) × (f (n + id, z) ≡ Some y)
    by_first None gives j there rest = behind (rest j there)
    by_first (Some v) gives zero there rest = here v gives (same_Some v y there)
    by_first (Some v) gives (suc j) there rest = behind (rest j there)

-- the item at a place of a numbered list
pub numbered_at : {X : Type 0} (n : ℕ) (xs : List X) (k : ℕ) (x : X) → slice_get xs k ≡ Some x → slice_get (enumerate_from n xs) k ≡ Some (n + k, x)
numbered_at n [] k x at = cc
numbered_at {X = X} n (y ∷ ys) zero x at =
    let start : n ≡ n + 0 = omega arith in
    ap (λ (m : ℕ). Some (m, y)) start ∙ ap (λ (z : X). Some (n + 0, z)) (same_Some y x at)
numbered_at {X = X} n (y ∷ ys) (suc k) x at =
    let same : (n + 1) + k ≡ n + suc k = omega arith in
    numbered_at (n + 1) ys k x at ∙ ap (λ (m : ℕ). Some (m, x)) same

-- a list with items has one that passes a test that all pass
pub any_of_some : {X : Type 0} (xs : List X) → (length xs == 0) ≡ false → list_any (λ x. true) xs ≡ true
any_of_some [] h = cc
any_of_some (x ∷ xs) h = refl
