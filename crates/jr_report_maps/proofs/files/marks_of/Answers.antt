use Rattle.std.proofs.Common.{◌∙◌, ◌<◌, ◌++◌, List, Option, ap, sym, length, take, arith}
use Rattle.std.specs.Option.{option_map, option_to_list}
use Rattle.jr_model.specs.declared.events.Event.{Event}
use Rattle.jr_model.specs.declared.events.Event.TheVariants.{Issue}
use Rattle.jr_model.specs.declared.events.IssueKind.TheVariants as issue
use Rattle.jr_report_maps.proofs.Marking.{said_more}
use Rattle.jr_report_maps.specs.Maps.{Said}
use Rattle.jr_report_maps.specs.Marked.{on_file, said_in}
use Rattle.jr_report_maps.specs.Spans.{said_by}
use Rattle.jr_report_maps.proofs.files.marks_of.Goals as goal

-- what stands behind the end of a list of events
abbrev none : Event
none = Issue 0 issue.Read (record { clone = 0; pass = 0; number = 0 }) (record { file = 0; offset = 0; len = 0 })

pub loop-event-preserved : goal.loop-event-preserved
loop-event-preserved c = record {
  count = c.in_ok-add_mark.ensures.len ∙ c.loop-event.invariant.count;
  each = λ file d below.
      let plan = c.args.plan.now in
      let history = c.args.history.now in
      let before = said_in plan history file (take c.loop-event.event-index history) in
      let inside : file < length c.loop-event.files.items = omega (arith, below, c.loop-event.invariant.count) in
      c.in_ok-add_mark.ensures.each file d inside
      ∙ ap (λ (saids : List Said). saids ++ option_to_list (on_file file (option_map said_by c.mark_of-mark.result))) (c.loop-event.invariant.each file d below)
      ∙ ap (λ (said : Option Said). before ++ option_to_list (on_file file said)) (c.mark_of-mark.ensures history c.in_ok-told.ensures)
      ∙ sym (said_more plan history file history c.loop-event.event-index none c.loop-event-test.true);
}
