use Rattle.std.proofs.Common.{refl, sym, ap, ◌∙◌, arith}
use Rattle.std.specs.Prelude.{Some}
use Rattle.std.proofs.lemmas.Option.{slice_get-get_or}
use Rattle.jr_crew_books.proofs.accounts.moves.Goals as goal

pub returns : goal.returns
returns c all =
    let books = c.args.books.now in
    let places = c.args.places.now in
    let at = c.args.at in
    let book = c.index-books-at.result in
    let standing = c.has_at.ensures c.if-not-has_at.false in (
      standing.0,
      (
        book,
        _,
        slice_get-get_or books at book (omega (arith, c.if-at-books.false)) ∙ ap Some (sym c.index-books-at.is),
        slice_get-get_or places at 0 (omega (arith, c.if-at-places.false)),
        standing.1,
        refl,
      ),
      standing.2,
    )
