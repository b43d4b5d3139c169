use Rattle.std.proofs.Common.{◌≡◌, ◌∙◌, ◌<◌, List, [], ◌∷◌, ◌++◌, length, get_or, ap, sym, arith}
use Rattle.std.specs.Prelude.{Option, None}
use Rattle.std.proofs.lemmas.List.{get_or-replicate, length-replicate}
use Rattle.std.proofs.lemmas.Grind.{replicate_next}
use Rattle.jr_report_maps.proofs.firsts.none_yet.Goals as goal
use Rattle.jr_desk_totals.specs.declared.tallies.Bad.{Bad}

abbrev nothing : Option Bad
nothing = None

pub loop-place-preserved : goal.loop-place-preserved
loop-place-preserved c =
    c.in_ok-add_none.ensures
    ∙ ap (λ (xs : List (Option Bad)). xs ++ nothing ∷ []) c.loop-place.invariant
    ∙ sym (replicate_next c.loop-place.place nothing)

pub returns-clause-len : goal.returns-clause-len
returns-clause-len c =
    let counted : length c.loop-place.firsts.items ≡ c.loop-place.place =
    ap (λ (xs : List (Option Bad)). length xs) c.loop-place.invariant ∙ length-replicate c.loop-place.place nothing in
    omega arith

pub returns-clause-firsts : goal.returns-clause-firsts
returns-clause-firsts c = λ cell d within.
    let counted : length c.loop-place.firsts.items ≡ c.loop-place.place =
    ap (λ (xs : List (Option Bad)). length xs) c.loop-place.invariant ∙ length-replicate c.loop-place.place nothing in
    let inside : cell < c.loop-place.place = omega arith in
    ap (λ (xs : List (Option Bad)). get_or xs cell d) c.loop-place.invariant
    ∙ get_or-replicate c.loop-place.place cell nothing d inside
