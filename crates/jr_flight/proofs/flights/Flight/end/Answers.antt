-- Without the I/O the two maps still agree.
use Rattle.std.proofs.Common.{false, refl, sym}
use Rattle.jr_flight.proofs.KeptLemmas.{indexed_without, wrote_without, wrote_nothing}
use Rattle.jr_flight.proofs.flights.Flight.end.Goals as goal

pub invariant_of-self-then-is_empty : goal.invariant_of-self-then-is_empty
invariant_of-self-then-is_empty c =
    let inside = c.self.inside in (
      indexed_without inside.ids c.remove.new.self inside.places c.remove-2.new.self inside.longest c.in-Some.ended c.place_of.result
          c.remove.ensures.ordered c.remove-2.ensures.ordered c.place_of.ensures c.self.invariant.0 c.args.id (sym c.in-Some.ensures.value)
          c.remove.ensures.updates.0 c.remove-2.ensures.updates.0,
      wrote_nothing c.remove.new.self false (c.if-is_empty.ensures.0 refl),
    )

pub invariant_of-self-else-is_empty : goal.invariant_of-self-else-is_empty
invariant_of-self-else-is_empty c =
    let inside = c.self.inside in (
      indexed_without inside.ids c.remove.new.self inside.places c.remove-2.new.self inside.longest c.in-Some.ended c.place_of.result
          c.remove.ensures.ordered c.remove-2.ensures.ordered c.place_of.ensures c.self.invariant.0 c.args.id (sym c.in-Some.ensures.value)
          c.remove.ensures.updates.0 c.remove-2.ensures.updates.0,
      wrote_without inside.ids c.remove.new.self c.args.id inside.wrote c.remove.ensures.updates.0 c.self.invariant.1,
    )
