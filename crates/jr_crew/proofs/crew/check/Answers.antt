use Rattle.std.proofs.Common.{◌∙◌, ap, List}
use Rattle.std.specs.Prelude.{slice_get}
use Rattle.jr_model.specs.declared.events.Event.{Event}
use Rattle.jr_model.specs.Plan.{Plan}
use Rattle.jr_crew_books.specs.AccountRecords.{AccountRecord}
use Rattle.jr_crew_books.specs.Books.{dones_of}
use Rattle.jr_crew.proofs.crew.check.Goals as goal

pub returns-clause-each : goal.returns-clause-each
returns-clause-each g c i book at =
    c.in_ok-are_books.ensures c.if-not-branch.false i book (ap (λ (books : List _). slice_get books i) c.deref.ensures.value ∙ at)
    ∙ ap (λ (a : AccountRecord). dones_of a.plan c.args.inline a.history i) c.new-account.ensures
    ∙ ap (λ (p : Plan). dones_of p c.args.inline c.history.result.now i) c.plan.ensures
    ∙ ap (λ (h : List Event). dones_of c.args.desk.now.plan c.args.inline h i) c.history.ensures.value
