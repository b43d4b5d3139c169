use Rattle.std.proofs.Common.{◌∙◌, ap, Bool}
use Rattle.jr_model.specs.Plan.{Plan}
use Rattle.jr_crew_books.specs.Books.{dones_of}
use Rattle.jr_crew_books.specs.Numbers.{judges_inline}
use Rattle.jr_crew_channel.specs.Passes.{pass_state}
use Rattle.jr_crew_threads.proofs.PartLemmas.{sourced}
use Rattle.jr_crew.proofs.crew.gathered.Goals as goal

pub returns-clause-each : goal.returns-clause-each
returns-clause-each g c i book at =
    c.in_ok-asked.ensures.each i book at
    ∙ ap (λ (inline : Bool). dones_of c.args.desk.now.plan inline c.args.desk.now.history i)
    (c.judges_inline-inline.ensures ∙ ap (λ (plan : Plan). judges_inline plan) c.plan.ensures)

pub returns-clause-sourced : goal.returns-clause-sourced
returns-clause-sourced g c others =
    sourced (λ book. book.items) (λ one. (pass_state one.1.part.pass).put) c.in_ok-books.books.said.items c.args.ended.items c.args.desk.now.history
    c.in_ok-books.ensures.said
    (c.in_ok-asked.ensures.said (c.judges_inline-inline.ensures ∙ ap (λ (plan : Plan). judges_inline plan) c.plan.ensures ∙ others))
