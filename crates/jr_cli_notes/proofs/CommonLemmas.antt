-- How the traits of blocks, and a count of those that have one, go on with the next block.
use Rattle.std.proofs.Common.{◌≡◌, ℕ, ◌+◌, ◌<◌, Bool, true, false, cond, List, [], ◌∷◌, ◌++◌, length, take, get_or, Option, Some, None, refl, sym, ◌∙◌, ap, count_by, append-nil, add-zero}
use Rattle.std.specs.List.{cons_option}
use Rattle.std.specs.Option.{option_eq}
use Rattle.std.proofs.lemmas.List.{take_more}
use Rattle.std.proofs.lemmas.List.Elements.{filter_map-append}
use Rattle.std.proofs.lemmas.List.Sums.{sum_by_push}
use Rattle.jr_diagnosis.specs.declared.rulings.Diagnosed.{Diagnosed}
use Rattle.jr_cli_notes.specs.declared.common.Trait.{Trait}
use Rattle.jr_cli_notes.specs.declared.common.Trait.TheVariants.{Ahead, Behind, Length}
use Rattle.jr_cli_notes.specs.contracts.common.TraitPartialEq.TheImpl.{eq-value}
use Rattle.jr_cli_notes.specs.Common.{count_of, same_trait, trait_of, traits_of}

-- whether it is this trait, if it is one
abbrev pub is_trait : Trait → Option Trait → Bool
is_trait what None = false
is_trait what (Some other) = same_trait other what

-- what one more adds to a count, where it has the trait or hasn't
abbrev pub added : Bool → ℕ
added true = 1
added false = 0

added_is : (b : Bool) → cond b 1 0 ≡ added b
added_is true = refl
added_is false = refl

same-trait : (other what : Trait) → eq-value.it other what ≡ same_trait other what
same-trait (Ahead m) (Ahead n) = refl
same-trait (Ahead m) (Behind n) = refl
same-trait (Ahead m) (Length n) = refl
same-trait (Behind m) (Ahead n) = refl
same-trait (Behind m) (Behind n) = refl
same-trait (Behind m) (Length n) = refl
same-trait (Length m) (Ahead n) = refl
same-trait (Length m) (Behind n) = refl
same-trait (Length m) (Length n) = refl

-- what `==` answers
pub eq-is_trait : (other : Option Trait) (what : Trait) → option_eq eq-value.it other (Some what) ≡ is_trait what other
eq-is_trait None what = refl
eq-is_trait (Some other) what = same-trait other what

-- with the next block
traits_more : (found : List Diagnosed) (i : ℕ) (d : Diagnosed) → i < length found
    → traits_of (take (i + 1) found) ≡ traits_of (take i found) ++ traits_of (get_or found i d ∷ [])
traits_more found i d below = ap traits_of (take_more found i d below) ∙ filter_map-append trait_of (take i found) (get_or found i d ∷ [])

-- where it has none, and where it has one
pub traits_same : (found : List Diagnosed) (i : ℕ) (d : Diagnosed) → i < length found → trait_of (get_or found i d) ≡ None
    → traits_of (take (i + 1) found) ≡ traits_of (take i found)
traits_same found i d below none =
    traits_more found i d below ∙ ap (λ o. traits_of (take i found) ++ cons_option o []) none ∙ append-nil (traits_of (take i found))

pub traits_push : (found : List Diagnosed) (i : ℕ) (d : Diagnosed) (what : Trait) → i < length found
    → trait_of (get_or found i d) ≡ Some what → traits_of (take (i + 1) found) ≡ traits_of (take i found) ++ what ∷ []
traits_push found i d what below some =
    traits_more found i d below ∙ ap (λ o. traits_of (take i found) ++ cons_option o []) some

count_more : (what : Trait) (ts : List Trait) (one : Option Trait)
    → count_by (λ (other : Trait). same_trait other what) (ts ++ cons_option one [])
    ≡ count_by (λ (other : Trait). same_trait other what) ts + added (is_trait what one)
count_more what ts None =
    ap (count_by (λ (other : Trait). same_trait other what)) (append-nil ts)
    ∙ sym (add-zero (count_by (λ (other : Trait). same_trait other what) ts))
count_more what ts (Some other) =
    sum_by_push (λ (t : Trait). cond (same_trait t what) 1 0) ts other
    ∙ ap (λ n. count_by (λ (t : Trait). same_trait t what) ts + n) (added_is (same_trait other what))

-- one block more: it counts if it has the trait
pub count_of_more : (found : List Diagnosed) (i : ℕ) (d : Diagnosed) (what : Trait) → i < length found
    → count_of (take (i + 1) found) what ≡ count_of (take i found) what + added (is_trait what (trait_of (get_or found i d)))
count_of_more found i d what below =
    ap (count_by (λ (other : Trait). same_trait other what)) (traits_more found i d below)
    ∙ count_more what (traits_of (take i found)) (trait_of (get_or found i d))
