-- Internal: what is in flight after a history, where the I/O that began last may stand beside the others.
use Rattle.std.specs.Prelude.{◌≡◌, true, List, Option, Some, None, IfSome, ℕ}
use Rattle.std.specs.BTreeMap.{insert_entry}
use Rattle.std.specs.Ordering.{nat_cmp}
use Rattle.jr_model.specs.declared.events.Event.{Event}
use Rattle.jr_model.specs.Tickets.{piece_fits}
use Rattle.jr_model.specs.Plan.{Plan}
use Rattle.jr_flight.specs.declared.ios.Ended.{Ended}
use Rattle.jr_flight.specs.Flights.{flying_io}
use Rattle.jr_laws_log.specs.Flying.{flight_of}
use Rattle.jr_desk_state.specs.declared.flying.Flying.{Flying}

-- with this I/O, if there is one
abbrev pub with_begun : Option Ended → List (ℕ × Ended) → List (ℕ × Ended)
with_begun None entries = entries
with_begun (Some ended) entries = insert_entry nat_cmp entries ended.io.id ended

-- the I/O can be put to what is in flight: its number is new, and it is a piece of whole blocks
pub record CanBegin (entries : List (ℕ × Ended)) (ended : Ended) : Type 0 where
  pub new : flying_io ended.io.id entries ≡ None
  pub fits : piece_fits ended.io.piece ≡ true

-- these are in flight after the history
pub record IsFlying (plan : Plan) (history : List Event) (flying : Flying) : Type 0 where
  pub all : flight_of plan history ≡ with_begun flying.begun flying.flight
  pub begins : IfSome flying.begun (CanBegin flying.flight)
