-- Where the second map has no room, the first is as it was.
use Rattle.std.proofs.Common.{◌≡◌, false, None, sym, ◌∙◌, ap, subst, rules, arith}
use Rattle.std.specs.Ordering.{nat_cmp}
use Rattle.std.specs.BTreeMap.{get}
use Rattle.std.proofs.lemmas.Grind.{common_steps}
use Rattle.jr_flight.specs.Flights.{flying_io, writes}
use Rattle.jr_flight.specs.Places.{IsIndexed}
use Rattle.jr_flight.proofs.KeptLemmas.{indexed_with, wrote_with}
use Rattle.jr_flight.proofs.flights.Flight.put.Goals as goal

pub invariant_of-self-in-Err : goal.invariant_of-self-in-Err
invariant_of-self-in-Err c = (
  record {
    ordered = rw c.in-Err.ensures.err c.self.invariant.0.ordered;
    sorted = c.remove.ensures.ordered;
    measured = λ id. rw c.in-Err.ensures.err (c.self.invariant.0.measured id);
    placed = λ at.
        let was = c.self.invariant.0.placed at in
        let put = c.in_ok-insert.ensures.updates.0 at in
        let taken = c.remove.ensures.updates.0 at in
        grind (arith, common_steps, was, put, taken);
  },
  λ id. rw c.in-Err.ensures.err (c.self.invariant.1 id),
)

pub invariant_of-self-in-Ok : goal.invariant_of-self-in-Ok
invariant_of-self-in-Ok c =
    let inside = c.self.inside in
    let ended = c.args.ended in
    let none : get nat_cmp inside.ids ended.io.id ≡ None = ap (flying_io ended.io.id) c.self.view_is ∙ c.requires.new in
    let wrote : c.if-self.self ≡ false → inside.wrote ≡ false = λ no. search rules in
    let reads : c.if-self.self ≡ false → writes ended.io.dir ≡ false = λ no. search rules in (
      subst (IsIndexed c.insert-2.new.self c.insert.new.self) (sym c.max-self-inside.ensures)
          (indexed_with inside.ids c.insert-2.new.self inside.places c.insert.new.self inside.longest ended c.place_of-place.result
          c.in-Ok.ensures.ordered c.in_ok-insert.ensures.ordered c.place_of-place.ensures c.self.invariant.0 none
          c.in-Ok.ensures.updates.0 c.in_ok-insert.ensures.updates.0),
      wrote_with inside.ids c.insert-2.new.self ended inside.wrote c.if-self.self wrote reads c.in-Ok.ensures.updates.0 c.self.invariant.1,
    )
