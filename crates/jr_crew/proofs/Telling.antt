-- What was told, with one more that was taken in.
use Rattle.std.proofs.Common.{◌≡◌, ℕ, ◌+◌, ◌<◌, List, [], ◌∷◌, ◌++◌, append_assoc, length, get_or, take, map, sym, ap, ◌∙◌}
use Rattle.std.proofs.lemmas.List.{map-append, take_more}

pub told_on : {A B S : Type 0} (f : A → S) (g : B → S) (first old new : List A) (said : A) (settled : List B) (i : ℕ) (one : B) → i < length settled → one ≡ get_or settled i one → f said ≡ g one → new ≡ old ++ said ∷ [] → map f old ≡ map f first ++ map g (take i settled) → map f new ≡ map f first ++ map g (take (i + 1) settled)
told_on {S = S} f g first old new said settled i one within at same pushed sofar =
    ap (map f) pushed
    ∙ map-append f old (said ∷ [])
    ∙ ap (λ (l : List S). l ++ f said ∷ []) sofar
    ∙ append_assoc (map f first) (map g (take i settled)) (f said ∷ [])
    ∙ ap (λ (l : List S). map f first ++ l)
    (ap (λ (s : S). map g (take i settled) ++ s ∷ []) (same ∙ ap g at)
    ∙ sym (map-append g (take i settled) (get_or settled i one ∷ []))
    ∙ ap (map g) (sym (take_more settled i one within)))
