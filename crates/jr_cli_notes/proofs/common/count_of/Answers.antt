use Rattle.std.proofs.Common.{◌≡◌, ◌+◌, take, get_or, sym, ◌∙◌, ap, arith}
use Rattle.jr_cli_notes.specs.Common.{count_of, trait_of}
use Rattle.jr_cli_notes.proofs.CommonLemmas.{added, count_of_more, eq-is_trait, is_trait}
use Rattle.jr_cli_notes.proofs.common.count_of.Goals as goal
use Rattle.jr_cli_notes.proofs.common.count_of.Goals.{then-eq, else-eq}

pub loop-one-preserved : goal.loop-one-preserved
loop-one-preserved c =
    let found = c.args.found.now in
    let what = c.args.what in
    let at = c.loop-one.one-index in
    let is : c.eq.result ≡ is_trait what (trait_of (get_or found at c.one-item.result)) =
    c.eq.ensures
    ∙ eq-is_trait c.trait_of.result what
    ∙ ap (is_trait what) c.trait_of.ensures
    ∙ ap (λ d. is_trait what (trait_of d)) c.one-item.is in
    let more : count_of (take (at + 1) found) what ≡ count_of (take at found) what + added c.eq.result =
    count_of_more found at c.one-item.result what c.loop-one-test.true ∙ ap (λ b. count_of (take at found) what + added b) (sym is) in
    elim c.if-eq.branch [
      | then-eq w ↦
          let one : added c.eq.result ≡ 1 = ap added w.if-eq.true in
          record {
            count = omega (arith, more, one, w.count-is, w.saturating_add-count.ensures, c.loop-one.invariant.count, c.loop-one.invariant.few);
            few = omega (arith, w.count-is, w.saturating_add-count.ensures, c.loop-one.invariant.few);
          }
      | else-eq w ↦
          let none : added c.eq.result ≡ 0 = ap added w.if-eq.false in
          record {
            count = omega (arith, more, none, w.count-is, c.loop-one.invariant.count);
            few = omega (arith, w.count-is, c.loop-one.invariant.few);
          }
    ]
