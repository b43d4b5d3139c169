-- Internal: what is kept of a legal history beside itself: what flies, each clone's counts and totals, and which of those that
-- ended raced.
use Rattle.std.specs.Prelude.{◌≡◌, ℕ, nat_eq, ◌&&◌, List, is_some}
use Rattle.std.specs.HashSet.{HashSet, contains}
use Rattle.jr_model.specs.declared.events.Event.{Event}
use Rattle.jr_model.specs.History.{outcome_of}
use Rattle.jr_model.specs.Plan.{Plan}
use Rattle.jr_model.specs.Races.{has_raced}
use Rattle.jr_laws_log.specs.Flying.{flight_of}
use Rattle.jr_desk_totals.specs.Tallying.{IsTallied}
use Rattle.jr_replay.specs.declared.indexes.Indexes.{Indexes}

-- these are all that ended and raced
abbrev pub AreRacedEnds : {S : Type 0} → List Event → HashSet ℕ S → Type 0
AreRacedEnds history raced =
    (io : ℕ) → contains nat_eq raced io ≡ (is_some (outcome_of history io) && has_raced history io)

-- these are the indexes of the history
pub record AreIndexes (plan : Plan) (history : List Event) (indexes : Indexes) : Type 0 where
  pub flight : indexes.flight ≡ flight_of plan history
  pub tallied : IsTallied plan history indexes.tallies
  pub raced : AreRacedEnds history indexes.raced
