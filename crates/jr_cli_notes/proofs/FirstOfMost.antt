-- The first of those that have the greatest count, among the traits so far and among all.
use Rattle.std.proofs.Common.{◌≡◌, ℕ, ◌<◌, ◌≤◌, Bool, true, false, ◌&&◌, nat_le, nat_lt, List, [], ◌∷◌, ◌++◌, Option, Some, None, MatchOption, refl, sym, ◌∙◌, ap, arith, find, cond, append_assoc, subst}
use Rattle.std.specs.List.{All, list_all}
use Rattle.std.specs.Option.{option_map, option_or}
use Rattle.std.proofs.lemmas.Bool.{and_left, and_right, false≢true, le-leb, lt-leb, ltb-false, ltb-true}
use Rattle.std.proofs.lemmas.List.Elements.{All-head, All-push, All-same, All-tail, All-weaker}
use Rattle.std.proofs.lemmas.List.Folds.{find-append}
use Rattle.std.proofs.lemmas.List.Sums.{list_all-from_AllPass}
use Rattle.jr_cli_notes.specs.declared.common.Common.{Common}
use Rattle.jr_cli_notes.specs.declared.common.Trait.{Trait}

abbrev pub counted_so : Trait → ℕ → Common
counted_so what n = record { what = what; count = n }

module _ (count : Trait → ℕ) where
  -- it stands first among the traits that so many have; none has more
  pub record IsFirst (traits : List Trait) (most : Common) : Type 0 where
    pub before : List Trait
    pub behind : List Trait
    pub stands : traits ≡ before ++ most.what ∷ behind
    pub counted : most.count ≡ count most.what
    pub enough : 3 ≤ most.count
    pub fewer : All (λ t. count t < most.count) before
    pub none_more : All (λ t. count t ≤ most.count) traits

  -- so far
  abbrev pub IsMost : List Trait → Option Common → Type 0
  IsMost traits None = All (λ t. count t < 3) traits
  IsMost traits (Some most) = IsFirst traits most

  -- one more, which more have than any before
  taken_by : (traits : List Trait) (what : Trait) (n : ℕ) → n ≡ count what → 3 ≤ n → All (λ t. count t < n) traits
      → IsMost (traits ++ what ∷ []) (Some (counted_so what n))
  taken_by traits what n is enough fewer = record {
    before = traits;
    behind = [];
    stands = refl;
    counted = is;
    enough = enough;
    fewer = fewer;
    none_more =
        All-push (λ t. count t ≤ n) traits what
        (All-weaker (λ t. count t < n) (λ t. count t ≤ n) (λ t less. omega (arith, less)) traits fewer)
        (omega (arith, is));
  }

  pub most_taken : (traits : List Trait) (most : Option Common) (what : Trait) (n : ℕ) (is_more : Bool)
      → MatchOption most (is_more ≡ true) (λ one. is_more ≡ nat_lt one.count n) → is_more ≡ true → 3 ≤ n → n ≡ count what
      → IsMost traits most → IsMost (traits ++ what ∷ []) (Some (counted_so what n))
  most_taken traits None what n is_more says more enough is so_far =
      taken_by traits what n is enough
      (All-weaker (λ t. count t < 3) (λ t. count t < n) (λ t less. omega (arith, less, enough)) traits so_far)
  most_taken traits (Some most) what n is_more says more enough is so_far =
      let above : most.count < n = ltb-true most.count n (sym says ∙ more) in
      taken_by traits what n is enough
      (All-weaker (λ t. count t ≤ most.count) (λ t. count t < n) (λ t less. omega (arith, less, above)) traits so_far.none_more)

  kept_by : (traits : List Trait) (most : Common) (what : Trait) → count what ≤ most.count → IsFirst traits most
      → IsFirst (traits ++ what ∷ []) most
  kept_by traits most what few so_far = record {
    before = so_far.before;
    behind = so_far.behind ++ what ∷ [];
    stands = ap (λ ts. ts ++ what ∷ []) so_far.stands ∙ append_assoc so_far.before (most.what ∷ so_far.behind) (what ∷ []);
    counted = so_far.counted;
    enough = so_far.enough;
    fewer = so_far.fewer;
    none_more = All-push (λ t. count t ≤ most.count) traits what so_far.none_more few;
  }

  -- one more, which no more have than the first of most
  pub most_kept : (traits : List Trait) (most : Option Common) (what : Trait) (n : ℕ) (is_more : Bool)
      → MatchOption most (is_more ≡ true) (λ one. is_more ≡ nat_lt one.count n) → is_more ≡ false → n ≡ count what
      → IsMost traits most → IsMost (traits ++ what ∷ []) most
  most_kept traits None what n is_more says less is so_far = absurd (false≢true (sym less ∙ says))
  most_kept traits (Some most) what n is_more says less is so_far =
      let above : n ≤ most.count = ltb-false most.count n (sym says ∙ less) in
      kept_by traits most what (omega (arith, above, is)) so_far

  -- one more, which too few have
  pub too_few : (traits : List Trait) (most : Option Common) (what : Trait) (n : ℕ) → n < 3 → n ≡ count what
      → IsMost traits most → IsMost (traits ++ what ∷ []) most
  too_few traits None what n few is so_far = All-push (λ t. count t < 3) traits what so_far (omega (arith, few, is))
  too_few traits (Some most) what n few is so_far = kept_by traits most what (omega (arith, few, is, so_far.enough)) so_far

  pub same_traits : (traits more : List Trait) (most : Option Common) → more ≡ traits → IsMost traits most → IsMost more most
  same_traits traits more most same so_far = subst (λ (ts : List Trait). IsMost ts most) (sym same) so_far

  -- enough have it, and none has more
  abbrev pub is_most : List Trait → Trait → Bool
  is_most traits what = nat_le 3 (count what) && list_all (λ (other : Trait). nat_le (count other) (count what)) traits

  abbrev pub told : Trait → Common
  told what = record { what = what; count = count what }

  find_none : (test : Trait → Bool) (traits : List Trait) → All (λ t. test t ≡ false) traits → find test traits ≡ None
  find_none test [] fails = refl
  find_none test (t ∷ traits) fails =
      let none = find_none test traits (All-tail (λ u. test u ≡ false) t traits fails) in
      ap (λ b. cond b (Some t) (find test traits)) (All-head (λ u. test u ≡ false) t traits fails) ∙ none

  all_fails : (test : Trait → Bool) (before : List Trait) (t : Trait) (behind : List Trait) → test t ≡ false
      → list_all test (before ++ t ∷ behind) ≡ false
  all_fails test [] t behind fails = and_left (test t) (list_all test behind) fails
  all_fails test (u ∷ before) t behind fails =
      and_right (test u) (list_all test (before ++ t ∷ behind)) (all_fails test before t behind fails)

  few_fails : (traits : List Trait) (t : Trait) → count t < 3 → is_most traits t ≡ false
  few_fails traits t few =
      and_left (nat_le 3 (count t)) (list_all (λ (other : Trait). nat_le (count other) (count t)) traits) (lt-leb 3 (count t) few)

  less_fails : (before : List Trait) (what : Trait) (behind : List Trait) (t : Trait) → count t < count what
      → is_most (before ++ what ∷ behind) t ≡ false
  less_fails before what behind t less =
      let test : Trait → Bool = λ (other : Trait). nat_le (count other) (count t) in
      and_right (nat_le 3 (count t)) (list_all test (before ++ what ∷ behind))
      (all_fails test before what behind (lt-leb (count what) (count t) less))

  passes : (traits : List Trait) (what : Trait) → 3 ≤ count what → All (λ t. count t ≤ count what) traits → is_most traits what ≡ true
  passes traits what enough none_more =
      let test : Trait → Bool = λ (other : Trait). nat_le (count other) (count what) in
      ap (λ b. b && list_all test traits) (le-leb 3 (count what) enough)
      ∙ list_all-from_AllPass test traits
      (All-weaker (λ t. count t ≤ count what) (λ t. test t ≡ true) (λ t le. le-leb (count t) (count what) le) traits none_more)

  found_first : (test : Trait → Bool) (before : List Trait) (what : Trait) (behind : List Trait) → All (λ t. test t ≡ false) before
      → test what ≡ true → find test (before ++ what ∷ behind) ≡ Some what
  found_first test before what behind fails holds =
      find-append test before (what ∷ behind)
      ∙ ap (λ o. option_or o (find test (what ∷ behind))) (find_none test before fails)
      ∙ ap (λ b. cond b (Some what) (find test behind)) holds

  first_found : (before : List Trait) (what : Trait) (behind : List Trait) → 3 ≤ count what → All (λ t. count t < count what) before
      → All (λ t. count t ≤ count what) (before ++ what ∷ behind)
      → find (is_most (before ++ what ∷ behind)) (before ++ what ∷ behind) ≡ Some what
  first_found before what behind enough fewer none_more =
      let all = before ++ what ∷ behind in
      found_first (is_most all) before what behind
      (All-weaker (λ t. count t < count what) (λ t. is_most all t ≡ false) (λ t less. less_fails before what behind t less) before fewer)
      (passes all what enough none_more)

  pub most_found : (traits : List Trait) (most : Option Common) → IsMost traits most
      → most ≡ option_map told (find (is_most traits) traits)
  most_found traits None few =
      sym (ap (option_map told)
      (find_none (is_most traits) traits
      (All-weaker (λ t. count t < 3) (λ t. is_most traits t ≡ false) (λ t less. few_fails traits t less) traits few)))
  most_found traits (Some most) first =
      let all = first.before ++ most.what ∷ first.behind in
      let none_more = All-same (λ t. count t ≤ most.count) all traits (sym first.stands) first.none_more in
      let at : find (is_most all) all ≡ Some most.what =
      first_found first.before most.what first.behind (omega (arith, first.enough, first.counted))
      (All-weaker (λ t. count t < most.count) (λ t. count t < count most.what) (λ t less. omega (arith, less, first.counted)) first.before
      first.fewer)
      (All-weaker (λ t. count t ≤ most.count) (λ t. count t ≤ count most.what) (λ t le. omega (arith, le, first.counted)) all
      none_more) in
      let found : find (is_most traits) traits ≡ Some most.what = ap (λ ts. find (is_most ts) ts) first.stands ∙ at in
      let same : most ≡ told most.what = ap (λ n. counted_so most.what n) first.counted in
      ap Some same ∙ sym (ap (option_map told) found)
