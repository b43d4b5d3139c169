use Rattle.std.proofs.Common.{◌≡◌}
use Rattle.jr_flight.specs.Places.{near_piece}
use Rattle.jr_flight.proofs.MarkLemmas.{raced_in_turn}
use Rattle.jr_flight.proofs.flights.mark_near.Given as goal

-- what is left to mark makes of what is marked so far what all makes of what flew before
abbrev pub invariant-loop-at : goal.invariant-loop-at
invariant-loop-at l =
    raced_in_turn l.io l.at-iterator l.ids.entries
    ≡ raced_in_turn l.io (near_piece l.io.piece l.longest l.places.entries) l.initial.ids.entries
