use Rattle.std.proofs.Common.{◌∙◌, Bool, List, get_or, ap, sym, arith}
use Rattle.std.specs.Prelude.{◌||◌}
use Rattle.std.specs.List.{list_any}
use Rattle.std.proofs.lemmas.List.{take_all}
use Rattle.std.proofs.lemmas.List.Folds.{list_any_more}
use Rattle.jr_model.specs.declared.events.Event.{Event}
use Rattle.jr_model.specs.declared.events.Event.TheVariants.{Issue}
use Rattle.jr_model.specs.declared.events.IssueKind.TheVariants as issue
use Rattle.jr_report_maps.specs.Maps.{skips}
use Rattle.jr_report_maps.proofs.told.skipped_in.Goals as goal

-- what stands behind the end of a list of events
abbrev none : Event
none = Issue 0 issue.Read (record { clone = 0; pass = 0; number = 0 }) (record { file = 0; offset = 0; len = 0 })

pub loop-event-preserved : goal.loop-event-preserved
loop-event-preserved c = λ write.
    c.in_ok-add_skipped.ensures write
    ∙ ap (λ (b : Bool). b || skips write (get_or c.args.history.now c.loop-event.event-index none)) (c.loop-event.invariant write)
    ∙ sym (list_any_more (skips write) c.args.history.now c.loop-event.event-index none c.loop-event-test.true)

pub returns : goal.returns
returns c = λ write.
    c.loop-event.invariant write
    ∙ ap (λ (events : List Event). list_any (skips write) events) (take_all c.loop-event.event-index c.args.history.now (omega arith))
