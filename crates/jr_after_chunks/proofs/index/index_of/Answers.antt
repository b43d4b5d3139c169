use Rattle.std.proofs.Common.{◌≡◌, ℕ, ◌+◌, suc, List, [], ◌∷◌, ◌++◌, cond, take, slice_get, ap, sym, ◌∙◌, zero-add, arith}
use Rattle.std.specs.Prelude.{Some}
use Rattle.std.proofs.lemmas.Option.{slice_get-get_or}
use Rattle.jr_after_chunks.specs.Index.{is_write_over, places_from}
use Rattle.jr_after_chunks.proofs.IndexLemmas.{places_more}
use Rattle.jr_after_chunks.proofs.index.index_of.Goals as goal

pub loop-place-preserved : goal.loop-place-preserved
loop-place-preserved c = λ file part.
    let named = c.args.named.now in
    let place = c.loop-place.place in
    let one = c.index-named-place.result in
    let test = is_write_over file part in
    let at : slice_get named place ≡ Some one = slice_get-get_or named place one (omega (arith, c.loop-place-test.true)) ∙ ap Some (sym c.index-named-place.is) in
    let next : suc place ≡ place + 1 = omega arith in
    c.in_ok-put.ensures file part
    ∙ ap (λ (places : List ℕ). places ++ cond (test one) (place ∷ []) []) (c.loop-place.invariant file part)
    ∙ ap (λ (n : ℕ). places_from test 0 (take place named) ++ cond (test one) (n ∷ []) []) (sym (zero-add place))
    ∙ sym (places_more test 0 named place one at)
    ∙ ap (λ (n : ℕ). places_from test 0 (take n named)) next
