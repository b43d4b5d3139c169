use Rattle.std.proofs.Common.{◌≡◌, ◌+◌, ◌++◌, [], ◌∷◌, take, get_or, Some, None, sym, ◌∙◌, ap, subst}
use Rattle.std.proofs.lemmas.List.{take_all}
use Rattle.jr_cli_notes.specs.Common.{count_of, trait_of, traits_of}
use Rattle.jr_cli_notes.proofs.CommonLemmas.{traits_push, traits_same}
use Rattle.jr_cli_notes.proofs.FirstOfMost.{IsMost, most_found, most_kept, most_taken, same_traits, too_few}
use Rattle.jr_cli_notes.proofs.common.most_common.Goals as goal
use Rattle.jr_cli_notes.proofs.common.most_common.Goals.{then-count-ge-LEAST+then-is_more, else-count-ge-LEAST, else-count-ge-LEAST-via-then-count-ge-LEAST+else-is_more, else-count-ge-LEAST-via-else-count-ge-LEAST}

pub loop-one-preserved-in_default : goal.loop-one-preserved-in_default
loop-one-preserved-in_default c =
    let found = c.args.found.now in
    let at = c.loop-one.one-index in
    let none : trait_of (get_or found at c.one-item.result) ≡ None =
    ap trait_of (sym c.one-item.is) ∙ sym c.trait_of.ensures ∙ c.in_default.is in
    same_traits (count_of found) (traits_of (take at found)) (traits_of (take (at + 1) found)) c.loop-one.most
    (traits_same found at c.one-item.result c.loop-one-test.true none) c.loop-one.invariant

pub loop-one-preserved : goal.loop-one-preserved
loop-one-preserved c =
    let found = c.args.found.now in
    let at = c.loop-one.one-index in
    let traits = traits_of (take at found) in
    let what = c.in-Some.what in
    let some : trait_of (get_or found at c.one-item.result) ≡ Some what =
    ap trait_of (sym c.one-item.is) ∙ sym c.trait_of.ensures ∙ c.in-Some.is in
    let next = traits_push found at c.one-item.result what c.loop-one-test.true some in
    let n = c.count_of-count.result in
    same_traits (count_of found) (traits ++ what ∷ []) (traits_of (take (at + 1) found)) c.if-count-ge-LEAST.most next
    (elim c.if-count-ge-LEAST.branch [
      | then-count-ge-LEAST+then-is_more w ↦
          subst (λ m. IsMost (count_of found) (traits ++ what ∷ []) m) (sym w.most-is)
          (most_taken (count_of found) traits c.loop-one.most what n w.is_more.result w.is_more.ensures w.if-is_more.true
          w.if-count-ge-LEAST.true c.count_of-count.ensures c.loop-one.invariant)
      | else-count-ge-LEAST w ↦
          subst (λ m. IsMost (count_of found) (traits ++ what ∷ []) m) (sym w.most-is)
          (elim w.else-count-ge-LEAST.branch [
            | else-count-ge-LEAST-via-then-count-ge-LEAST+else-is_more v ↦
                most_kept (count_of found) traits c.loop-one.most what n v.is_more.result v.is_more.ensures v.if-is_more.false
                c.count_of-count.ensures c.loop-one.invariant
            | else-count-ge-LEAST-via-else-count-ge-LEAST v ↦
                too_few (count_of found) traits c.loop-one.most what n v.if-count-ge-LEAST.false c.count_of-count.ensures
                c.loop-one.invariant
          ])
    ])

pub returns : goal.returns
returns c =
    let found = c.args.found.now in
    let all = ap traits_of (take_all c.loop-one.one-index found c.loop-one-test.false) in
    let most : IsMost (count_of found) (traits_of found) c.loop-one.most =
    same_traits (count_of found) (traits_of (take c.loop-one.one-index found)) (traits_of found) c.loop-one.most (sym all)
    c.loop-one.invariant in
    record {
      told = most_found (count_of found) (traits_of found) c.loop-one.most most;
      nothing = λ none. subst (λ m. IsMost (count_of found) (traits_of found) m) none most;
    }
