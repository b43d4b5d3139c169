use Rattle.std.proofs.Common.{◌≡◌, ◌*◌, ◌≤◌, length, take}
use Rattle.std.specs.Prelude.{filter_map}
use Rattle.jr_model.specs.Totals.{is_read, moved_by, bytes_of}
use Rattle.jr_replay_passes.proofs.counts.read_bytes.Given as goal

abbrev pub invariant-loop-event : goal.invariant-loop-event
invariant-loop-event l = record {
  is : l.total ≡ bytes_of (filter_map (moved_by l.ios is_read l.clone) (take l.event-index l.events));
  most : l.total ≤ 4294967295 * length (filter_map (moved_by l.ios is_read l.clone) (take l.event-index l.events));
}
