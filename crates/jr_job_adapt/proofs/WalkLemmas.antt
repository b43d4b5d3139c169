-- The next line of a text.
use Rattle.std.proofs.Common.{◌≡◌, ℕ, ◌+◌, ◌<◌, List, [], ◌∷◌, ◌++◌, length, drop, slice_index_or, append_assoc, ap, ◌∙◌, sym}
use Rattle.std.proofs.lemmas.List.{at_drop_more}

-- one line more of a text
pub text_more : (made new all whole : List (List ℕ)) (i j : ℕ) (line : List ℕ) → i < length all → line ≡ slice_index_or all i line → new ≡ made ++ line ∷ [] → j ≡ i + 1 → made ++ drop i all ≡ whole → new ++ drop j all ≡ whole
text_more made new all whole i j line within here added next is =
    let first : drop i all ≡ line ∷ drop (i + 1) all = at_drop_more (λ xs. xs) all i line within ∙ sym (ap (λ x. x ∷ drop (i + 1) all) here) in
    ap (λ n. new ++ drop n all) next
    ∙ ap (λ xs. xs ++ drop (i + 1) all) added
    ∙ append_assoc made (line ∷ []) (drop (i + 1) all)
    ∙ ap (λ xs. made ++ xs) (sym first)
    ∙ is
