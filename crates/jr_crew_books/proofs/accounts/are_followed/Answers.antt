use Rattle.std.proofs.Common.{List, subst}
use Rattle.jr_model.specs.declared.events.Event.{Event}
use Rattle.jr_crew_books.specs.Accounts.{AreFollowed}
use Rattle.jr_crew_books.specs.Books.{done_by}
use Rattle.jr_crew_books.proofs.Following.{follow_last}
use Rattle.jr_crew_books.proofs.accounts.are_followed.Goals as goal

pub returns : goal.returns
returns c all =
    let args = c.args in
    let by = done_by args.account.now.plan args.inline args.account.now.history in
    follow_last args.books.now by c.follow_all.new.places args.account.now.history
    (subst (λ (events : List Event). AreFollowed args.books.now by c.follow_all.new.places events) c.history.ensures
    (c.follow_all.ensures c.if-not-follow_all.false))
    (c.are_gone_past.ensures all)
