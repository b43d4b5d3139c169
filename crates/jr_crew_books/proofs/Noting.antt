-- What becomes the last one that is known.
use Rattle.std.proofs.Common.{◌≡◌, ℕ, suc, ◌-◌, List, [], ◌∷◌, ◌++◌, length, Vec, Global, refl, sym, ap, ◌∙◌, arith}
use Rattle.std.specs.Prelude.{Some, slice_get}
use Rattle.std.proofs.lemmas.List.{append-nil, length-append}
use Rattle.jr_model.proofs.PlaceLemmas.{got_last}
use Rattle.jr_crew_books.specs.BookEntries.{IsLonger, last_of}

-- nothing more, or one more
pub none_longer : {X : Type 0} (old new : List X) → new ≡ old → IsLonger old new
none_longer old new same = record { more = []; is = same ∙ sym (append-nil old) }

pub one_longer : {X : Type 0} (old new : List X) (x : X) → new ≡ old ++ x ∷ [] → IsLonger old new
one_longer old new x is = record { more = x ∷ []; is = is }

-- two lists with the same items
pub same_items : {X : Type 0} (v w : Vec X Global) → v ≡ w → v.items ≡ w.items
same_items {X = X} v w same = ap (λ (u : Vec X Global). u.items) same

-- the one that was the last
pub last_is : {X : Type 0} (known : List X) (x : X) (count : ℕ) → slice_get known (length known - 1) ≡ Some x → count ≡ length known → last_of known count ≡ Some x
last_is [] x count stands size = cc
last_is (y ∷ known) x count stands size =
    let e : length known ≡ suc (length known) - 1 = omega arith in
    ap (last_of (y ∷ known)) size ∙ ap (slice_get (y ∷ known)) e ∙ stands

pub last_pushed : {X : Type 0} (old new : List X) (x : X) (count : ℕ) → new ≡ old ++ x ∷ [] → count ≡ length new → last_of new count ≡ Some x
last_pushed old new x count is size =
    let longer = length-append old (x ∷ []) in
    let all : count ≡ suc (length old) = size ∙ ap length is ∙ (omega (arith, longer)) in
    ap (last_of new) all ∙ ap (λ known. slice_get known (length old)) is ∙ got_last old x
