use Rattle.std.proofs.Common.{Bool, cond, refl, sym, ap, ◌∙◌}
use Rattle.std.specs.Prelude.{None, slice_get}
use Rattle.std.proofs.lemmas.Bool.{eq-eqb}
use Rattle.jr_crew_books.specs.Accounts.{completed_by}
use Rattle.jr_crew_books.specs.Books.{verdict_in, done_by, done_with}
use Rattle.jr_crew_books.proofs.Following.{one_moved}
use Rattle.jr_crew_books.proofs.accounts.follows.Goals as goal
use Rattle.jr_desk_tickets.specs.Kept.{tickets_of}

pub returns-in-Some : goal.returns-in-Some
returns-in-Some c moved =
    let args = c.args in
    let account = args.account.now in
    let end = c.in-End in
    let by = done_by account.plan args.inline account.history in
    let its = done_with end.outcome (cond args.inline (verdict_in account.history end.io) None) (slice_get (tickets_of account.plan account.history) end.io) in
    let moving = c.moves.ensures moved in
    one_moved args.books.now by args.places.now c.moves.new.places args.event.now end.worker moving.0
    moving.1
    (ap (by end.worker) end.is
    ∙ ap (λ (b : Bool). cond b its None) (eq-eqb end.worker end.worker refl)
    ∙ ap (completed_by account.plan account.history) (sym (c.in-Some.ensures account.history c.requires.table))
    ∙ sym moving.2)
    (λ i other. ap (by i) end.is ∙ ap (λ (b : Bool). cond b its None) other)
