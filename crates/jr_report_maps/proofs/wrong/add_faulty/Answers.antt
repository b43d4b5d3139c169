use Rattle.std.proofs.Common.{List, ◌++◌, map, take, sym, ap, ◌∙◌, append_assoc}
use Rattle.std.specs.Prelude.{Option, filter_map, option_to_list}
use Rattle.jr_model.specs.declared.blocks.Piece.{Piece}
use Rattle.jr_model.specs.declared.events.Event.{Event}
use Rattle.jr_model.specs.declared.events.Event.TheVariants.{Issue}
use Rattle.jr_model.specs.declared.events.IssueKind.TheVariants as issue
use Rattle.jr_model.proofs.ListLemmas.{filter_map_more}
use Rattle.jr_report_maps.specs.Spans.{span_bytes}
use Rattle.jr_report_maps.specs.WrongBlocks.{faulty_piece}
use Rattle.jr_report_maps.proofs.wrong.add_faulty.Goals as goal

-- what stands behind the end of a list of events
abbrev none : Event
none = Issue 0 issue.Read (record { clone = 0; pass = 0; number = 0 }) (record { file = 0; offset = 0; len = 0 })

pub loop-event-preserved : goal.loop-event-preserved
loop-event-preserved c =
    let given = faulty_piece c.args.ios.now in
    let was : List Piece = map span_bytes c.args.spans.now.items in
    let before : List Piece = filter_map given (take c.loop-event.event-index c.args.history.now) in
    c.in_ok-add_fault.ensures
    ∙ ap (λ (pieces : List Piece). pieces ++ option_to_list c.faulty_piece.result) c.loop-event.invariant
    ∙ ap (λ (o : Option Piece). (was ++ before) ++ option_to_list o) c.faulty_piece.ensures
    ∙ append_assoc was before _
    ∙ ap (λ (pieces : List Piece). was ++ pieces) (sym (filter_map_more given c.args.history.now c.loop-event.event-index none c.loop-event-test.true))
