-- Believed: when all that a run started has come to its end (of this project).
use Rattle.std.specs.Prelude.{◌≡◌, ℕ, Bool, not, ◌&&◌, List, [], is_some}
use Rattle.jr_model.specs.declared.events.Event.{Event}
use Rattle.jr_model.specs.declared.events.Started.{Started}
use Rattle.jr_model.specs.History.{outcome_of, ended_whole, is_judged, is_judged_kind, in_flight, awaiting}

-- nothing is in flight, and each check that ended whole has its verdict
pub record AllFinished (history : List Event) : Type 0 where
  pub flown : in_flight history ≡ []
  pub judged : awaiting history ≡ []

-- the I/O of this number has ended, and where it is a check that ended whole it has its verdict
abbrev pub is_finished : List Event → ℕ → Started → Bool
is_finished history id io =
    is_some (outcome_of history id)
    && not (is_judged_kind io.kind && ended_whole (outcome_of history id) && not (is_judged history id))
