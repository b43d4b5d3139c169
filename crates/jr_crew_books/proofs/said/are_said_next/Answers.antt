use Rattle.std.proofs.Common.{arith, subst}
use Rattle.std.proofs.lemmas.Bool.{false≢true}
use Rattle.std.proofs.lemmas.List.Elements.{All-more, All-nil}
use Rattle.std.proofs.lemmas.List.{take_all}
use Rattle.std.specs.Prelude.{All}
use Rattle.jr_crew_books.specs.Books.{IsVerdictIn}
use Rattle.jr_crew_books.proofs.said.are_said_next.Goals as goal

pub loop-event-init : goal.loop-event-init
loop-event-init c = All-nil (IsVerdictIn c.args.books.now (λ book. book.items))

pub returns-then-not-is_said : goal.returns-then-not-is_said
returns-then-not-is_said c is = absurd (false≢true is)

pub loop-event-preserved : goal.loop-event-preserved
loop-event-preserved c =
    All-more (IsVerdictIn c.args.books.now (λ book. book.items)) c.args.history.now c.loop-event.event-index _ c.loop-event-test.true c.loop-event.invariant
    (c.is_said.ensures c.if-not-is_said.false)

pub returns : goal.returns
returns c are =
    subst (All (IsVerdictIn c.args.books.now (λ book. book.items))) (take_all c.loop-event.event-index c.args.history.now (omega arith)) c.loop-event.invariant
