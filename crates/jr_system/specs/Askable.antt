-- Believed: what a run's watcher was made of: when the run says by itself how far it is, and whether anybody can ask while it goes on.
use Rattle.std.specs.Prelude.{Bool, ◌||◌}
use Rattle.jr_system.specs.declared.asked.Asked.{Asked}
use Rattle.jr_system.specs.declared.show.Pace.{Pace}

abbrev pub pace_of : Asked → Pace
pace_of asked = asked.pace

abbrev pub can_be_asked : Asked → Bool
can_be_asked asked = asked.has_pipe

-- somebody can ask it to stop, or the end of its time does
abbrev pub can_be_stopped : Asked → Bool
can_be_stopped asked = asked.has_pipe || asked.has_limit
