use Rattle.std.proofs.Common.{◌≡◌, take}
use Rattle.std.specs.HashSet.{contains}
use Rattle.std.specs.List.{list_any}
use Rattle.jr_replay_history.specs.Marks.{same_name}
use Rattle.jr_model.specs.declared.events.WriteId.{WriteId}
use Rattle.jr_report_maps.specs.Maps.{judges}
use Rattle.jr_report_maps.proofs.told.judged_in.Given as goal

abbrev pub invariant-loop-event : goal.invariant-loop-event
invariant-loop-event l = (write : WriteId) → contains same_name l.writes write ≡ list_any (judges l.ios write) (take l.event-index l.history)
