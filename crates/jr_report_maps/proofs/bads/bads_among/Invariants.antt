use Rattle.std.proofs.Common.{◌≡◌, take, map}
use Rattle.std.specs.Prelude.{filter_map}
use Rattle.jr_model.specs.Report.{miscompare_by}
use Rattle.jr_desk_totals.specs.Bads.{miscompare_of}
use Rattle.jr_report_maps.proofs.bads.bads_among.Given as goal

-- the bad verdicts of the events so far
abbrev pub invariant-loop-event : goal.invariant-loop-event
invariant-loop-event l = map miscompare_of l.bads.items ≡ filter_map (miscompare_by l.ios) (take l.event-index l.events)
