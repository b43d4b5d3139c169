use Rattle.std.proofs.Common.{arith}
use Rattle.jr_crew_books.specs.Books.{done_by}
use Rattle.jr_crew_books.proofs.Following.{follow_next}
use Rattle.jr_crew_books.proofs.accounts.follow_all.Goals as goal

pub loop-event-preserved : goal.loop-event-preserved
loop-event-preserved c =
    let args = c.args in
    follow_next args.books.now (done_by args.account.now.plan args.inline args.account.now.history)
    c.loop-event.places c.follows.new.places args.events.now c.loop-event.event-index _ (omega (arith, c.follows.auto.places)) c.loop-event-test.true
    c.loop-event.invariant (c.follows.ensures c.if-not-follows.false)
