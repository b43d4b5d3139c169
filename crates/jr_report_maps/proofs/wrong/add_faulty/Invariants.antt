use Rattle.std.proofs.Common.{◌≡◌, ◌++◌, map, take}
use Rattle.std.specs.Prelude.{filter_map}
use Rattle.jr_report_maps.specs.Spans.{span_bytes}
use Rattle.jr_report_maps.specs.WrongBlocks.{faulty_piece}
use Rattle.jr_report_maps.proofs.wrong.add_faulty.Given as goal

abbrev pub invariant-loop-event : goal.invariant-loop-event
invariant-loop-event l =
    map span_bytes l.spans.items ≡ map span_bytes l.fn.spans.items ++ filter_map (faulty_piece l.ios) (take l.event-index l.history)
