use Rattle.std.proofs.Common.{sym, ap, ◌∙◌, ◌++◌, [], arith}
use Rattle.std.proofs.lemmas.List.{take_all}
use Rattle.std.specs.Prelude.{slice_get}
use Rattle.std.specs.List.{cons_option}
use Rattle.jr_crew_books.proofs.BookLemmas.{taken_next}
use Rattle.jr_crew_books.proofs.book.Book.dones.Goals as goal

pub loop-place-preserved : goal.loop-place-preserved
loop-place-preserved c =
    let book = c.args.self.now in
    let place = c.loop-place.place in
    c.in_ok-copy_at.ensures
    ∙ ap (λ dones. dones ++ cons_option (slice_get book place) []) c.loop-place.invariant
    ∙ sym (taken_next book place (omega (arith, c.loop-place-test.true, c.loop-place.auto, c.len-place-end.ensures)))

pub loop-place-init : goal.loop-place-init
loop-place-init c = c.new-dones.ensures.items

pub returns : goal.returns
returns c =
    c.loop-place.invariant
    ∙ take_all c.loop-place.place c.args.self.now (omega (arith, c.loop-place-test.false, c.len-place-end.ensures))
