use Rattle.std.proofs.Common.{◌≡◌, false, refl, sym, ◌∙◌, ap, rules}
use Rattle.jr_flight.specs.Flights.{marked, writes}
use Rattle.jr_flight.proofs.MarkLemmas.{mark_of, marked-changed, marked_by_read, marked_near, indexed-changed, wrote-changed}
use Rattle.jr_flight.proofs.flights.Flight.mark_others.Goals as goal

-- what is marked near the I/O is all that it marks
all_marked : (c : goal.After-mark_near) → c.mark_near.new.ids.entries ≡ marked c.args.io.now c.self.inside.ids.entries
all_marked c = c.mark_near.ensures ∙ marked_near c.self.inside.longest c.self.inside.ids c.self.inside.places c.self.invariant.0 c.args.io.now

pub invariant_of-self : goal.invariant_of-self
invariant_of-self c =
    let io = c.args.io.now in
    let same = all_marked c ∙ marked-changed io c.self.inside.ids.entries in (
      indexed-changed (mark_of io) c.self.inside.ids c.mark_near.new.ids c.self.inside.places c.self.inside.longest (λ id ended. refl) same
          c.self.invariant.0,
      wrote-changed (mark_of io) c.self.inside.ids c.mark_near.new.ids c.self.inside.wrote (λ id ended. refl) same c.self.invariant.1,
    )

pub returns-then-eq : goal.returns-then-eq
returns-then-eq c = all_marked c ∙ ap (marked c.args.io.now) c.self.view_is

pub returns-else-eq : goal.returns-else-eq
returns-else-eq c =
    let reads : writes c.args.io.now.dir ≡ false = search rules in
    sym (marked_by_read c.args.io.now c.args.self.now reads)
