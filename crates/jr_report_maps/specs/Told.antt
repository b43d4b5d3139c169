-- Internal: what is looked up while a map is made: the I/Os of a history, and of which writes something was said.
use Rattle.std.specs.Prelude.{◌≡◌, List}
use Rattle.std.specs.HashSet.{contains}
use Rattle.std.specs.List.{list_any}
use Rattle.jr_model.specs.declared.events.Event.{Event}
use Rattle.jr_model.specs.declared.events.WriteId.{WriteId}
use Rattle.jr_replay_history.specs.Marks.{same_name}
use Rattle.jr_model.specs.History.{started}
use Rattle.jr_report_maps.specs.declared.told.Lookups.{Lookups}
use Rattle.jr_report_maps.specs.Maps.{judges, skips}

pub record IsTold (history : List Event) (told : Lookups) : Type 0 where
  pub ios : told.ios.items ≡ started history
  pub skipped : (write : WriteId) → contains same_name told.skipped write ≡ list_any (skips write) history
  pub judged : (write : WriteId) → contains same_name told.judged write ≡ list_any (judges (started history) write) history
