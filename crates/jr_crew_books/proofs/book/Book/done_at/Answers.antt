use Rattle.std.proofs.Common.{sym, ◌∙◌}
use Rattle.jr_model.proofs.ListLemmas.{all_got}
use Rattle.jr_crew_books.specs.BookEntries.{IsKnown}
use Rattle.jr_crew_books.proofs.BookLemmas.{done_there, none_there, stands_at}
use Rattle.jr_crew_books.proofs.book.Book.done_at.Goals as goal

pub done_of-requires : goal.done_of-requires
done_of-requires c =
    let book = c.self.inside in
    let found = c.in-Some.ensures.lookup in
    let entry = c.in-Some.entry.now in
    all_got (IsKnown book.known) book.entries.items c.args.place entry c.self.invariant
    (stands_at c.deref.result.now book.entries.items c.args.place c.deref.ensures.value entry found.3.0 found.1)

pub returns-in-Some : goal.returns-in-Some
returns-in-Some c =
    let book = c.self.inside in
    let found = c.in-Some.ensures.lookup in
    let entry = c.in-Some.entry.now in
    c.done_of.ensures
    ∙ sym (done_there book.known book.entries.items c.args.self.now c.args.place entry c.self.view_is
    (stands_at c.deref.result.now book.entries.items c.args.place c.deref.ensures.value entry found.3.0 found.1))

pub returns-in-None : goal.returns-in-None
returns-in-None c =
    let book = c.self.inside in
    sym (none_there c.deref.result.now book.entries.items c.args.place c.deref.ensures.value book.known c.args.self.now c.self.view_is c.in-None.ensures.lookup.3)
