use Rattle.std.proofs.Common.{◌≡◌, ℕ, zero, suc, ◌-◌, ◌<◌, ◌≤◌, List, length, get_or, refl, sym, ap, ◌∙◌, arith}
use Rattle.std.specs.Prelude.{Option, Some, None, IfSome, MatchOption, slice_get}
use Rattle.std.specs.Option.{option_map}
use Rattle.std.specs.List.{HoldsAt}
use Rattle.std.proofs.lemmas.Option.{slice_get-get_or, slice_get_past}
use Rattle.jr_crew_books.specs.BookEntries.{last_of}
use Rattle.jr_crew_books.proofs.entries.last_in.Goals as goal

-- what `get` gives, as a contract says it
got : {X B : Type 0} (now : B → X) (o : Option B) (xs : List X) (i : ℕ) → MatchOption o (length xs ≤ i) (λ b. (i < length xs) × HoldsAt (λ x. now b ≡ x) xs i) → IfSome o (λ b. now b ≡ get_or xs i (now b)) → option_map now o ≡ slice_get xs i
got now (Some b) xs i within at = ap Some at ∙ sym (slice_get-get_or xs i (now b) within.0)
got now None xs i past at = sym (slice_get_past xs i past)

last_before : {X : Type 0} (known : List X) (count : ℕ) → (count ≡ 0 → ⊥) → slice_get known (count - 1) ≡ last_of known count
last_before known zero some = absurd (some refl)
last_before known (suc before) some = let e : suc before - 1 ≡ before = omega arith in ap (slice_get known) e

pub returns-then-count-eq0 : goal.returns-then-count-eq0
returns-then-count-eq0 g c = ap (last_of c.args.known.now) (sym c.if-count-eq0.true)

pub returns : goal.returns
returns g c =
    let known = c.args.known.now in
    let i = c.args.count - 1 in
    let found = c.get.ensures.lookup in
    got (λ b. b.now) c.get.result known i found.3 found.1
    ∙ last_before known c.args.count c.if-count-eq0.false
