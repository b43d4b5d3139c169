use Rattle.jr_crew_books.specs.BookEntries.{done_as}
use Rattle.jr_crew_books.proofs.Comparing.{launched_own}
use Rattle.jr_crew_books.proofs.completed.is_handed.Goals as goal

pub returns-in-Some : goal.returns-in-Some
returns-in-Some c same plan history is are =
    launched_own plan history c.args.tickets.now c.args.entry.now.id c.in-Some.launch.now
    (done_as c.args.known.now c.args.entry.now).ticket is c.in-Some.ensures
    (c.is_launched.ensures same plan c.args.tickets.now.headers.items are)
