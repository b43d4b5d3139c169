use Rattle.std.proofs.Common.{◌≡◌, ◌∷◌, [], sym, ◌∙◌, ◌+◌, ap, length, subst}
use Rattle.std.specs.Prelude.{All, IfOk, Ok}
use Rattle.std.specs.Vec.Iter.{into_iter_items}
use Rattle.std.proofs.lemmas.List.{length-append}
use Rattle.std.proofs.lemmas.List.Elements.{All-head, All-rest}
use Rattle.jr_crew_channel.specs.Passes.{pass_state}
use Rattle.jr_crew_threads.specs.Parts.{IsPutter}
use Rattle.jr_crew_threads.proofs.PartLemmas.{flat_on, map_both_on, map_on, more_on}
use Rattle.jr_crew_threads.proofs.brought.worked_books.Goals as goal

pub join-requires : goal.join-requires
join-requires g c =
    let steps : into_iter_items c.loop-one.one-iterator ≡ c.in-Some.one ∷ into_iter_items c.next.new.self = c.in-Some.ensures.steps.0 in
    let first = All-head (λ one. IfOk one.1.book (λ book. IsPutter (pass_state one.1.part.pass))) c.in-Some.one (into_iter_items c.next.new.self)
    (subst (All (λ one. IfOk one.1.book (λ book. IsPutter (pass_state one.1.part.pass)))) steps c.loop-one.invariant.3) in
    let part : IsPutter (pass_state c.in-Some.one.1.part.pass) =
    subst (λ r. IfOk r (λ book. IsPutter (pass_state c.in-Some.one.1.part.pass))) c.in_ok-book.was first in
    c.loop-one.invariant.2.of ∙ c.requires.of ∙ sym part.of

pub loop-one-preserved : goal.loop-one-preserved
loop-one-preserved g c =
    let one = c.in-Some.one in
    let sofar = c.loop-one.yielded in
    let steps : into_iter_items c.loop-one.one-iterator ≡ one ∷ into_iter_items c.next.new.self = c.in-Some.ensures.steps.0 in
    let first = All-head (λ one. IfOk one.1.book (λ book. IsPutter (pass_state one.1.part.pass))) one (into_iter_items c.next.new.self)
    (subst (All (λ one. IfOk one.1.book (λ book. IsPutter (pass_state one.1.part.pass)))) steps c.loop-one.invariant.3) in
    let part : IsPutter (pass_state one.1.part.pass) = subst (λ r. IfOk r (λ book. IsPutter (pass_state one.1.part.pass))) c.in_ok-book.was first in
    let longer = length-append sofar (one ∷ []) in (
      map_on (λ one. one.0) sofar one c.loop-one.engines.items c.push.new.all.items c.loop-one.invariant.0 c.in_ok-push.ensures.ok,
      map_both_on Ok (λ one. one.1.book) sofar one c.loop-one.books.items c.push-in-loop-one.new.all.items c.in_ok-book.field-0 c.loop-one.invariant.1
          c.in_ok-push-2.ensures.ok c.in_ok-book.was,
      more_on _ _ _ _ _ _ _ _ _ _ _ _ c.loop-one.invariant.2 c.join.ensures (longer ∙ ap (λ n. length sofar + n) (sym part.parts))
          (flat_on (λ one. (pass_state one.1.part.pass).put) sofar one) (sym part.taken),
      All-rest (λ one. IfOk one.1.book (λ book. IsPutter (pass_state one.1.part.pass))) one (into_iter_items c.next.new.self) (into_iter_items c.loop-one.one-iterator)
          steps c.loop-one.invariant.3,
    )
