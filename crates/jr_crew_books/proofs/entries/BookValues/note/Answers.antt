use Rattle.std.proofs.Common.{◌≡◌, ◌∙◌, Option, Some, ap, arith, refl, subst, sym}
use Rattle.std.specs.Option.{IsSome, unwrap_or}
use Rattle.jr_model.specs.declared.contents.Method.{Method}
use Rattle.jr_writes.specs.KeptEntries.{IsPlaced, made_at}
use Rattle.jr_crew_books.specs.declared.books.Done.{Done}
use Rattle.jr_crew_books.specs.BookEntries.{done_with_last, entry_piece, last_of, no_method}
use Rattle.jr_crew_books.proofs.entries.BookValues.note.Goals as goal

pub returns-clause-entry : goal.returns-clause-entry
returns-clause-entry c =
    let entry = c.entry_of.result in
    let ticket = c.args.ticket.now in
    let known = c.place.new.self in
    let is = c.entry_of.ensures in
    let method : last_of c.note_method.new.methods.items entry.method ≡ Some ticket.method =
    ap (last_of c.note_method.new.methods.items) is.method ∙ c.in_ok-method.ensures.last in
    let piece : entry_piece entry ≡ ticket.piece = ap (λ (done : Done). done.ticket.piece) (is.rest c.args.verdict) in
    let expected : made_at known entry.expected (entry_piece entry) ≡ ticket.expected =
    ap (made_at known entry.expected) piece
    ∙ ap (λ place. made_at known place ticket.piece) is.expected
    ∙ c.in_ok-expected.ensures.found in
    let verdict = ap (last_of c.note_verdict.new.verdicts.items) is.verdict ∙ c.in_ok-said.ensures.last in
    record {
      speaks = record {
        method = subst (λ (o : Option Method). IsSome o) (sym method) refl;
        expected = subst (IsPlaced known) (sym is.expected) c.in_ok-expected.ensures.placed;
        verdict = let last = is.verdict in let within = c.in_ok-said.ensures.within in omega (arith, last, within);
      };
      same =
          (λ i. done_with_last entry (unwrap_or (method i) no_method) (expected i) (verdict i))
          ∙ is.rest c.args.verdict;
    }
