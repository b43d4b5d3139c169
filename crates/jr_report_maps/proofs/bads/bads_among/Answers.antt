use Rattle.std.proofs.Common.{◌∙◌, ◌++◌, List, Option, get_or, map, ap, sym, arith}
use Rattle.std.specs.Prelude.{filter_map}
use Rattle.std.specs.Option.{option_to_list}
use Rattle.std.proofs.lemmas.List.{take_all}
use Rattle.jr_model.specs.declared.events.IssueKind.TheVariants as issue
use Rattle.jr_model.specs.declared.events.Event.{Event}
use Rattle.jr_model.specs.declared.events.Event.TheVariants.{Issue}
use Rattle.jr_model.specs.Report.{Miscompare, miscompare_by}
use Rattle.jr_model.proofs.ListLemmas.{filter_map_more}
use Rattle.jr_desk_totals.specs.Bads.{miscompare_of}
use Rattle.jr_report_maps.proofs.bads.bads_among.Goals as goal

-- what stands behind the end of a list of events
abbrev none : Event
none = Issue 0 issue.Read (record { clone = 0; pass = 0; number = 0 }) (record { file = 0; offset = 0; len = 0 })

pub loop-event-preserved : goal.loop-event-preserved
loop-event-preserved c =
    let by = miscompare_by c.args.ios.now in
    let event = get_or c.args.events.now c.loop-event.event-index none in
    c.in_ok-add_if.ensures
    ∙ ap (λ (found : Option Miscompare). map miscompare_of c.loop-event.bads.items ++ option_to_list found) c.bad_verdict_in.ensures
    ∙ ap (λ (before : List Miscompare). before ++ option_to_list (by event)) c.loop-event.invariant
    ∙ sym (filter_map_more by c.args.events.now c.loop-event.event-index none c.loop-event-test.true)

pub returns : goal.returns
returns c =
    c.loop-event.invariant
    ∙ ap (λ (events : List Event). filter_map (miscompare_by c.args.ios.now) events) (take_all c.loop-event.event-index c.args.events.now (omega arith))
