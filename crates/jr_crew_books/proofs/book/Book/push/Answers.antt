use Rattle.std.proofs.Common.{ap, ◌∙◌, ◌++◌, ◌∷◌, []}
use Rattle.std.proofs.lemmas.List.Elements.{All-same}
use Rattle.std.proofs.lemmas.Result.{IfOk-from_err}
use Rattle.jr_model.proofs.OptionLemmas.{on_error}
use Rattle.jr_crew_books.specs.declared.books.Done.{Done}
use Rattle.jr_crew_books.specs.BookEntries.{IsKnown, dones_as}
use Rattle.jr_crew_books.proofs.BookLemmas.{dones_next, dones_stay, known_more, known_next}
use Rattle.jr_crew_books.proofs.book.Book.push.Goals as goal

pub returns-in_err-entry-clause-err : goal.returns-in_err-entry-clause-err
returns-in_err-entry-clause-err c =
    let old = c.self.inside in
    on_error c.from_residual.result _
    (dones_stay old.known c.note.new.self c.in_err-entry.ensures.grown old.entries.items c.self.invariant ∙ c.self.view_is)

pub invariant_of-self-in_err-push : goal.invariant_of-self-in_err-push
invariant_of-self-in_err-push c =
    let old = c.self.inside in
    All-same (IsKnown c.note.new.self) c.push.new.self.items old.entries.items c.in_err-push.ensures.items
    (known_more old.known c.note.new.self c.in_ok-entry.ensures.grown old.entries.items c.self.invariant)

pub returns-in_err-push-clause-err : goal.returns-in_err-push-clause-err
returns-in_err-push-clause-err c =
    let old = c.self.inside in
    on_error c.from_residual-in_err-push.result _
    (ap (dones_as c.note.new.self) c.in_err-push.ensures.items
    ∙ dones_stay old.known c.note.new.self c.in_ok-entry.ensures.grown old.entries.items c.self.invariant
    ∙ c.self.view_is)

pub invariant_of-self-2 : goal.invariant_of-self-2
invariant_of-self-2 c =
    let old = c.self.inside in
    let done : Done = record { ticket = c.args.ticket.now; outcome = c.args.outcome; verdict = c.args.verdict } in
    known_next old.known c.note.new.self c.in_ok-entry.ensures.grown old.entries.items c.push.new.self.items c.in_ok-entry.entry
    c.in_ok-push.ensures.items c.self.invariant done c.in_ok-entry.ensures.entry

pub returns-clause-ok : goal.returns-clause-ok
returns-clause-ok c =
    let old = c.self.inside in
    let done : Done = record { ticket = c.args.ticket.now; outcome = c.args.outcome; verdict = c.args.verdict } in
    dones_next old.known c.note.new.self c.in_ok-entry.ensures.grown old.entries.items c.push.new.self.items c.in_ok-entry.entry
    c.in_ok-push.ensures.items c.self.invariant done c.in_ok-entry.ensures.entry
    ∙ ap (λ dones. dones ++ done ∷ []) c.self.view_is

pub invariant_of-self : goal.invariant_of-self
invariant_of-self c =
    let old = c.self.inside in
    known_more old.known c.note.new.self c.in_err-entry.ensures.grown old.entries.items c.self.invariant

pub returns-in_err-entry-clause-ok : goal.returns-in_err-entry-clause-ok
returns-in_err-entry-clause-ok c = IfOk-from_err c.from_residual.result _ c.from_residual.ensures.0

pub returns-in_err-push-clause-ok : goal.returns-in_err-push-clause-ok
returns-in_err-push-clause-ok c = IfOk-from_err c.from_residual-in_err-push.result _ c.from_residual-in_err-push.ensures.0

pub returns-clause-err : goal.returns-clause-err
returns-clause-err c = tt
