use Rattle.std.proofs.lemmas.Bool.{false≢true}
use Rattle.jr_model.proofs.ListLemmas.{all_got}
use Rattle.jr_crew_books.specs.BookEntries.{IsKnown, done_as}
use Rattle.jr_crew_books.proofs.BookLemmas.{done_there, stands_at}
use Rattle.jr_crew_books.proofs.book.Book.has_at.Goals as goal

pub is_completed-requires-clause-known : goal.is_completed-requires-clause-known
is_completed-requires-clause-known c =
    let book = c.self.inside in
    let found = c.in-Some.ensures.lookup in
    let entry = c.in-Some.entry.now in
    all_got (IsKnown book.known) book.entries.items c.args.place entry c.self.invariant
    (stands_at c.deref.result.now book.entries.items c.args.place c.deref.ensures.value entry found.3.0 found.1)

pub returns-in-Some : goal.returns-in-Some
returns-in-Some c same =
    let book = c.self.inside in
    let found = c.in-Some.ensures.lookup in
    let entry = c.in-Some.entry.now in (
      done_as book.known entry,
      done_there book.known book.entries.items c.args.self.now c.args.place entry c.self.view_is
          (stands_at c.deref.result.now book.entries.items c.args.place c.deref.ensures.value entry found.3.0 found.1),
      c.is_completed.ensures same,
    )

pub returns-in-None : goal.returns-in-None
returns-in-None c same = absurd (false≢true same)
