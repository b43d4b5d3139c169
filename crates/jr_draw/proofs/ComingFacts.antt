-- What the next draw of a drawer says of the draws that are still to come. `given n` and `left n` are the draws before and
-- after it, by the words of n draws.
use Rattle.std.proofs.Common.{◌≡◌, ℕ, suc, ◌≤◌, List, [], ◌∷◌, refl, sym, ◌∙◌, ap, arith}
use Rattle.std.specs.Prelude.{Option, Some, None, MatchOption, IfNone, drop}
use Rattle.std.specs.List.{cons_option}
use Rattle.jr_model.specs.declared.limits.TheConstants.{MOST_CELLS}
use Rattle.jr_model.specs.declared.workloads.Draw.{Draw}
use Rattle.jr_draw.specs.declared.drawer.Drawer.{Drawer}
use Rattle.jr_draw.specs.Drawing.{draws_left}
use Rattle.jr_draw.specs.ComingDraws.{coming, IsComing}

-- what a drawer says of its next draw
abbrev pub GivesNext : {X : Type 0} → (ℕ → List X) → (ℕ → List X) → Option X → Type 0
GivesNext given left next = (n : ℕ) → MatchOption next (given (suc n) ≡ []) (λ x. given (suc n) ≡ x ∷ left n)

-- more words give no more draws
abbrev pub IsEnough : {X : Type 0} → (ℕ → List X) → ℕ → List X → Type 0
IsEnough given most all = (n : ℕ) → most ≤ n → given n ≡ all

one_more : (most n : ℕ) → most ≤ n → most ≤ suc n
one_more most n h = omega arith

same_tail : {X : Type 0} (x : X) (xs ys : List X) → x ∷ xs ≡ x ∷ ys → xs ≡ ys
same_tail x xs ys e = cc

-- the next draw and those behind it are all that were to come
next_and_left : {X : Type 0} (given left : ℕ → List X) (most : ℕ) (all : List X) (next : Option X) → IsEnough given most all → GivesNext given left next → IfNone next ((n : ℕ) → left n ≡ given n) → IsEnough (λ n. cons_option next (left n)) most all
next_and_left given left most all None enough gives stays = λ n h. stays n ∙ enough n h
next_and_left given left most all (Some x) enough gives stays = λ n h. sym (gives n) ∙ enough (suc n) (one_more most n h)

-- without a next draw there were none
none_left : {X : Type 0} (given left : ℕ → List X) (most : ℕ) (all : List X) (next : Option X) → IsEnough given most all → GivesNext given left next → next ≡ None → all ≡ []
none_left given left most all None enough gives none = sym (enough (suc most) (one_more most most (omega arith))) ∙ gives most
none_left given left most all (Some x) enough gives none = cc

cons_same : {X : Type 0} (next : Option X) (xs ys : List X) → cons_option next xs ≡ cons_option next ys → xs ≡ ys
cons_same None xs ys e = e
cons_same (Some x) xs ys e = same_tail x xs ys e

cons_none : {X : Type 0} (next : Option X) (xs : List X) → next ≡ None → cons_option next xs ≡ xs
cons_none None xs none = refl
cons_none (Some x) xs none = cc

-- the drawer's answer as the facts above have it
stays_same : {W : Type 0} (upcoming : W → ℕ → List ℕ) (old new : Drawer W) (next : Option Draw) → IfNone next (new ≡ old) → IfNone next ((n : ℕ) → draws_left upcoming new n ≡ draws_left upcoming old n)
stays_same upcoming old new None same = λ n. ap (λ d. draws_left upcoming d n) same
stays_same upcoming old new (Some x) same = same

-- after a next draw is taken from a drawer that is to give all these: these come, and the record of it holds
abbrev pub NextTaken : {W : Type 0} → (W → ℕ → List ℕ) → Option Draw → Drawer W → List Draw → Type 0
NextTaken upcoming next rest all = IsComing upcoming next rest × (coming upcoming next rest ≡ all)

pub next_taken : {W : Type 0} (upcoming : W → ℕ → List ℕ) (old new : Drawer W) (next : Option Draw) (all : List Draw) → IsEnough (draws_left upcoming old) MOST_CELLS all → GivesNext (draws_left upcoming old) (draws_left upcoming new) next → IfNone next (new ≡ old) → NextTaken upcoming next new all
next_taken upcoming old new next all enough gives same =
    let given = draws_left upcoming old in
    let left = draws_left upcoming new in
    let whole : IsEnough (λ n. cons_option next (left n)) MOST_CELLS all = next_and_left given left MOST_CELLS all next enough gives (stays_same upcoming old new next same) in
    let here : cons_option next (left MOST_CELLS) ≡ all = whole MOST_CELLS (omega arith) in (
      record {
        enough = λ n h. cons_same next (left n) (left MOST_CELLS) (whole n h ∙ sym here);
        over = λ none. sym (cons_none next (left MOST_CELLS) none) ∙ here ∙ none_left given left MOST_CELLS all next enough gives none;
      },
      here,
    )

drop_next : {X : Type 0} (next : Option X) (rest : List X) → (next ≡ None → rest ≡ []) → rest ≡ drop 1 (cons_option next rest)
drop_next None rest over = over refl ∙ sym (ap (drop 1) (over refl))
drop_next (Some x) rest over = refl

-- the draws behind the next one are all but the first
pub behind_next : {W : Type 0} (upcoming : W → ℕ → List ℕ) (next : Option Draw) (rest : Drawer W) → IsComing upcoming next rest → draws_left upcoming rest MOST_CELLS ≡ drop 1 (coming upcoming next rest)
behind_next upcoming next rest is = drop_next next (draws_left upcoming rest MOST_CELLS) is.over
