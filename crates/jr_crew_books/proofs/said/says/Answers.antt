use Rattle.std.proofs.Common.{sym, ap, ◌∙◌, subst, arith}
use Rattle.std.specs.Prelude.{Contains, Some}
use Rattle.std.proofs.lemmas.List.Elements.{Contains-get_or}
use Rattle.std.proofs.lemmas.Option.{slice_get-get_or}
use Rattle.jr_crew_books.proofs.said.says.Goals as goal

pub returns : goal.returns
returns c all =
    let books = c.args.books.now in
    let at = c.args.at in
    let book = c.index-books-at.result in record {
      at = at;
      book = book;
      there = slice_get-get_or books at book (omega (arith, c.if-at-books.false)) ∙ ap Some (sym c.index-books-at.is);
      among = subst (Contains book.items) (sym c.index.ensures ∙ c.is_same_said.ensures c.if-not-is_same_said.false)
          (Contains-get_or book.items _ c.index.result.now (omega (arith, c.if-place-len.false, c.len.ensures, book.ok.0)));
    }
