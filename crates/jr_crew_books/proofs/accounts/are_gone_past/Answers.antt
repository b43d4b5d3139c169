use Rattle.std.proofs.Common.{◌≡◌, ℕ, List, length, ap, ◌∙◌, below_more, arith}
use Rattle.std.specs.Prelude.{Some, slice_get}
use Rattle.std.proofs.lemmas.Option.{slice_get-get_or, slice_get_within, get_or_from_slice_get}
use Rattle.jr_crew_books.specs.declared.books.Done.{Done}
use Rattle.jr_crew_books.proofs.accounts.are_gone_past.Goals as goal

pub loop-i-preserved : goal.loop-i-preserved
loop-i-preserved c k book below at =
    let books = c.args.books.now in
    let places = c.args.places.now in
    let i = c.loop-i.i in
    let found = c.index-books-i in
    let IsPast : ℕ → Type 0 = λ n. (b : List Done) → slice_get books n ≡ Some b → slice_get places n ≡ Some (length b) in
    below_more IsPast i (λ n before b there. c.loop-i.invariant n b before there)
    (λ b there. slice_get-get_or places i 0 (omega (arith, c.loop-i-test.true, c.if-places-books.false))
    ∙ ap Some (c.if-places-i.false ∙ c.len.ensures ∙ ap length (found.is ∙ get_or_from_slice_get books i b found.result there)))
    k below book at

pub returns : goal.returns
returns c gone i book at =
    let within = slice_get_within c.args.books.now i book at in
    c.loop-i.invariant i book (omega (arith, within, c.loop-i-test.false)) at
