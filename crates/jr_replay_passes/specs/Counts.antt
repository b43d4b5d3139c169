-- Internal: what a clone did, where the started I/Os are given beside the events.
use Rattle.std.specs.Prelude.{ℕ, not, ◌||◌, List, length, filter_map, count_by}
use Rattle.jr_model.specs.declared.events.Event.{Event}
use Rattle.jr_model.specs.declared.events.Started.{Started}
use Rattle.jr_model.specs.declared.totals.Totals.{Totals}
use Rattle.jr_model.specs.History.{is_write}
use Rattle.jr_model.specs.Legal.{is_bad, is_void}
use Rattle.jr_model.specs.Totals.{is_read, moved_by, bytes_of, is_verdict_of, is_skip_of, is_fault_of}

-- the totals of clone c
abbrev pub totals_by : List Started → List Event → ℕ → Totals
totals_by ios events c = record {
  reads = length (filter_map (moved_by ios is_read c) events);
  rbytes = bytes_of (filter_map (moved_by ios is_read c) events);
  writes = length (filter_map (moved_by ios is_write c) events);
  wbytes = bytes_of (filter_map (moved_by ios is_write c) events);
  checks = count_by (is_verdict_of ios (λ verdict. not (is_void verdict)) c) events;
  good = count_by (is_verdict_of ios (λ verdict. not (is_bad verdict || is_void verdict)) c) events;
  bad = count_by (is_verdict_of ios is_bad c) events;
  skipped = count_by (is_skip_of c) events;
  void = count_by (is_verdict_of ios is_void c) events;
  faults = count_by (is_fault_of ios c) events;
}
