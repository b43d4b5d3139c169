use Rattle.std.proofs.Common.{◌≡◌, ◌∷◌, [], sym, ◌∙◌, ◌+◌, ap, length, subst}
use Rattle.std.specs.Prelude.{All, IfOk}
use Rattle.std.specs.Vec.Iter.{into_iter_items}
use Rattle.std.proofs.lemmas.List.{length-append}
use Rattle.std.proofs.lemmas.List.Elements.{All-head, All-rest}
use Rattle.jr_crew_channel.specs.Passes.{pass_state}
use Rattle.jr_crew_threads.specs.Judging.{IsJudging}
use Rattle.jr_crew_threads.proofs.PartLemmas.{books_on, flat_on, more_on}
use Rattle.jr_crew_threads.proofs.brought.judged_books.Goals as goal

pub loop-one-preserved : goal.loop-one-preserved
loop-one-preserved g c =
    let one = c.in-Some.one in
    let sofar = c.loop-one.yielded in
    let steps : into_iter_items c.loop-one.one-iterator ≡ one ∷ into_iter_items c.next.new.self = c.in-Some.ensures.steps.0 in
    let first = All-head (λ one. IfOk one.book (λ book. IsJudging (pass_state one.part.pass) book.items)) one (into_iter_items c.next.new.self)
    (subst (All (λ one. IfOk one.book (λ book. IsJudging (pass_state one.part.pass) book.items))) steps c.loop-one.invariant.2) in
    let judging : IsJudging (pass_state one.part.pass) c.in_ok-book.field-0.items =
    subst (λ r. IfOk r (λ book. IsJudging (pass_state one.part.pass) book.items)) c.in_ok-book.was first in
    let together = flat_on (λ one. (pass_state one.part.pass).taken) sofar one in (
      books_on (λ book. book.items) _ _ _ c.loop-one.books.items c.push.new.all.items c.in_ok-book.field-0 c.loop-one.invariant.0 judging.said together
          c.in_ok-push.ensures.ok,
      more_on _ _ _ _ _ _ _ _ _ _ _ _ c.loop-one.invariant.1 c.join.ensures
          (length-append sofar (one ∷ []) ∙ ap (λ n. length sofar + n) (sym judging.parts)) (sym judging.put) together,
      All-rest (λ one. IfOk one.book (λ book. IsJudging (pass_state one.part.pass) book.items)) one (into_iter_items c.next.new.self)
          (into_iter_items c.loop-one.one-iterator) steps c.loop-one.invariant.2,
    )
