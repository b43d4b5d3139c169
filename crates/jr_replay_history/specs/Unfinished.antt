-- Internal: what is kept of a history beside itself: what is still to end or to be judged, and what raced.
use Rattle.std.specs.Prelude.{◌≡◌, ℕ, Bool, ◌||◌, List, is_some, filter}
use Rattle.std.specs.HashSet.{HashSet}
use Rattle.std.specs.List.{enumerate_from}
use Rattle.jr_model.specs.declared.events.Event.{Event}
use Rattle.jr_model.specs.declared.events.Started.{Started}
use Rattle.jr_model.specs.History.{started, if_flying, if_awaiting, in_flight, awaiting}
use Rattle.jr_replay_history.specs.Raced.{AreRaced}

-- the I/O with its number is in flight, or its verdict is to come
unfoldable pub is_unfinished : List Event → ℕ × Started → Bool
is_unfinished history numbered = is_some (if_flying history numbered) || is_some (if_awaiting history numbered)

-- all such, with their numbers
abbrev pub unfinished : List Event → List (ℕ × Started)
unfinished history = filter (is_unfinished history) (enumerate_from 0 (started history))

-- these are the unfinished ones, those in flight, those that await their verdicts, and those that raced
pub record IsWorkedOut {S : Type 0} (history : List Event) (pending : List (ℕ × Started)) (flying waiting : List Started) (raced : HashSet ℕ S) : Type 0 where
  pub all_pending : pending ≡ unfinished history
  pub all_flying : flying ≡ in_flight history
  pub all_waiting : waiting ≡ awaiting history
  pub all_raced : AreRaced history raced
