use Rattle.std.proofs.Common.{List, length, map, ap, sym, subst, ◌∙◌}
use Rattle.std.specs.Prelude.{Option}
use Rattle.jr_model.specs.Plan.{Plan}
use Rattle.jr_model.specs.declared.events.Verdict.{Verdict as GivenVerdict}
use Rattle.jr_crew_books.specs.Accounts.{IsTableOf}
use Rattle.jr_crew_books.specs.Books.{done_by}
use Rattle.jr_crew_books.proofs.Following.{follow_first}
use Rattle.jr_crew_books.proofs.accounts.are_books.Goals as goal

pub are_followed-requires-clause-methods : goal.are_followed-requires-clause-methods
are_followed-requires-clause-methods c =
    c.deref.ensures.value ∙ c.in_ok-methods.ensures ∙ ap (λ (plan : Plan). map (λ job. job.method) plan.clones) c.plan.ensures

pub are_followed-requires-clause-table : goal.are_followed-requires-clause-table
are_followed-requires-clause-table c =
    subst (λ (table : List (Option GivenVerdict)). IsTableOf table c.args.account.now.history) (sym c.deref-2.ensures.value) c.in_ok-table.ensures.table

pub are_followed-requires-clause-first : goal.are_followed-requires-clause-first
are_followed-requires-clause-first c =
    let args = c.args in
    follow_first args.books.now (done_by args.account.now.plan args.inline args.account.now.history) c.as_mut_slice.result.now (length args.books.now)
    (c.as_mut_slice.ensures.value ∙ c.in_ok-places.ensures.items_if_clones_equal (λ y same. same))

pub returns : goal.returns
returns c = c.are_followed.ensures
