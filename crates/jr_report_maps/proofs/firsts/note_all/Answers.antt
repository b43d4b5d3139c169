use Rattle.std.proofs.Common.{◌∙◌, ◌≡◌, ◌<◌, ◌+◌, ℕ, Bool, true, false, List, [], ◌∷◌, Option, ap, sym, refl, get_or, length, take, arith}
use Rattle.std.specs.Prelude.{None, Some, if◌then◌else◌}
use Rattle.std.specs.List.{find}
use Rattle.std.specs.Option.{option_or}
use Rattle.std.proofs.lemmas.List.{take_all, take_more}
use Rattle.std.proofs.lemmas.List.Folds.{find-append}
use Rattle.jr_model.specs.declared.events.What.TheVariants.{Header}
use Rattle.jr_report_maps.specs.Firsts.{first_bad, is_bad_over}
use Rattle.jr_report_maps.specs.Sweeps.{is_in_block, is_over}
use Rattle.jr_report_maps.proofs.firsts.note_all.Goals as goal
use Rattle.jr_desk_totals.specs.declared.tallies.Bad.{Bad}

-- what stands behind the end of a list of bad verdicts
abbrev none : Bad
none = record { write = record { clone = 0; pass = 0; number = 0 }; piece = record { file = 0; offset = 0; len = 0 }; what = Header }

none_or : (was : Option Bad) → was ≡ option_or was None
none_or None = refl
none_or (Some bad) = refl

-- one bad verdict more
one_more : (test : Bool) (was : Option Bad) (bad : Bad) (p : Bad → Bool) → p bad ≡ test
    → (if test then option_or was (Some bad) else was) ≡ option_or was (find p (bad ∷ []))
one_more true was bad p is = ap (λ (t : Bool). option_or was (if t then Some bad else None)) (sym is)
one_more false was bad p is = none_or was ∙ ap (λ (t : Bool). option_or was (if t then Some bad else None)) (sym is)

found_more : (p : Bad → Bool) (bads : List Bad) (i : ℕ) (d : Bad) → i < length bads
    → find p (take (i + 1) bads) ≡ option_or (find p (take i bads)) (find p (get_or bads i d ∷ []))
found_more p bads i d within = ap (find p) (take_more bads i d within) ∙ find-append p (take i bads) (get_or bads i d ∷ [])

pub loop-bad-preserved : goal.loop-bad-preserved
loop-bad-preserved c = λ cell d within.
    let bads = c.args.bads.now in
    let bad = get_or bads c.loop-bad.bad-index none in
    let was = get_or c.loop-bad.firsts cell d in
    let span = c.bad_bytes-span.result in
    let p = is_bad_over c.args.plan.now c.args.file c.args.size cell in
    let inside : cell < length c.loop-bad.firsts = omega arith in
    let is : p bad ≡ is_over c.args.file c.args.size cell span =
    sym (ap (is_in_block c.args.file c.args.size cell) c.bad_bytes-span.ensures) in
    c.note.ensures cell d inside
    ∙ one_more (is_over c.args.file c.args.size cell span) was bad p is
    ∙ ap (λ (first : Option Bad). option_or first (find p (bad ∷ []))) (c.loop-bad.invariant cell d inside)
    ∙ sym (found_more p bads c.loop-bad.bad-index none c.loop-bad-test.true)

pub returns-clause-firsts : goal.returns-clause-firsts
returns-clause-firsts c = λ cell d within.
    c.loop-bad.invariant cell d within
    ∙ ap (λ (bads : List Bad). first_bad c.args.plan.now bads c.args.file c.args.size cell) (take_all c.loop-bad.bad-index c.args.bads.now c.loop-bad-test.false)
