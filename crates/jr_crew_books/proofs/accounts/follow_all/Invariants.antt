use Rattle.std.proofs.Common.{take}
use Rattle.jr_crew_books.specs.Accounts.{AreFollowed}
use Rattle.jr_crew_books.specs.Books.{done_by}
use Rattle.jr_crew_books.proofs.accounts.follow_all.Given as goal

-- the books up to their places are what the events so far completed
abbrev pub invariant-loop-event : goal.invariant-loop-event
invariant-loop-event l =
    AreFollowed l.books (done_by l.account.plan l.inline l.account.history) l.places (take l.event-index l.events)
