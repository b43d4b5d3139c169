use Rattle.std.proofs.Common.{◌≡◌, ◌∙◌, ◌<◌, List, [], ◌∷◌, ◌++◌, length, get_or, ap, sym, arith}
use Rattle.std.proofs.lemmas.List.{get_or-replicate, length-replicate}
use Rattle.std.proofs.lemmas.Grind.{replicate_next}
use Rattle.jr_report_maps.specs.declared.fates.Fate.{Fate}
use Rattle.jr_report_maps.specs.declared.fates.Fate.TheVariants.{Untouched}
use Rattle.jr_report_maps.proofs.maps.blank.Goals as goal

pub loop-place-preserved : goal.loop-place-preserved
loop-place-preserved c =
    c.in_ok-add_blank.ensures
    ∙ ap (λ (xs : List Fate). xs ++ Untouched ∷ []) c.loop-place.invariant
    ∙ sym (replicate_next c.loop-place.place Untouched)

pub returns-clause-len : goal.returns-clause-len
returns-clause-len c =
    let counted : length c.loop-place.fates.items ≡ c.loop-place.place =
    ap (λ (xs : List Fate). length xs) c.loop-place.invariant ∙ length-replicate c.loop-place.place Untouched in
    omega arith

pub returns-clause-fates : goal.returns-clause-fates
returns-clause-fates c = λ cell d within.
    let counted : length c.loop-place.fates.items ≡ c.loop-place.place =
    ap (λ (xs : List Fate). length xs) c.loop-place.invariant ∙ length-replicate c.loop-place.place Untouched in
    let inside : cell < c.loop-place.place = omega arith in
    ap (λ (xs : List Fate). get_or xs cell d) c.loop-place.invariant
    ∙ get_or-replicate c.loop-place.place cell Untouched d inside
