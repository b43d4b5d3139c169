use Rattle.std.proofs.Common.{◌∙◌, sym, List, take, subst, arith}
use Rattle.std.proofs.lemmas.List.{take_all, take_more}
use Rattle.jr_model.specs.declared.events.Event.{Event}
use Rattle.jr_crew_books.specs.Accounts.{IsTableOf}
use Rattle.jr_crew_books.proofs.Tables.{table_on}
use Rattle.jr_crew_books.proofs.accounts.note_verdicts.Goals as goal

pub loop-event-preserved : goal.loop-event-preserved
loop-event-preserved c = (
  subst (λ (events : List Event). IsTableOf c.note_verdict.new.table events)
      (sym (take_more c.args.history.now c.loop-event.event-index _ c.loop-event-test.true))
      (table_on c.loop-event.table c.note_verdict.new.table (take c.loop-event.event-index c.args.history.now) _ c.loop-event.invariant.0 (λ io said at. c.note_verdict.ensures.noted io said at)),
  c.note_verdict.ensures.len ∙ c.loop-event.invariant.1,
)

pub returns-clause-table : goal.returns-clause-table
returns-clause-table c =
    subst (λ (events : List Event). IsTableOf c.loop-event.table events)
    (take_all c.loop-event.event-index c.args.history.now (omega arith))
    c.loop-event.invariant.0
