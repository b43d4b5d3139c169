-- Internal: what a ledger keeps beside its events.
use Rattle.std.specs.Prelude.{◌≡◌, List}
use Rattle.jr_model.specs.declared.events.Event.{Event}
use Rattle.jr_model.specs.declared.events.Started.{Started}
use Rattle.jr_model.specs.History.{started}
use Rattle.jr_replay_history.specs.declared.marks.Marks.{Marks}
use Rattle.jr_replay_history.specs.Marks.{IsMarked}

-- these are the I/Os and checks that were started, and the marks of the events
pub record IsLedger (history : List Event) (ios : List Started) (marks : Marks) : Type 0 where
  pub all_started : ios ≡ started history
  pub all_marked : IsMarked (started history) history marks
