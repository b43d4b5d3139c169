use Rattle.std.proofs.Common.{◌≡◌, false, rules, sym, ◌∙◌, ap}
use Rattle.jr_flight.specs.Flights.{is_raced}
use Rattle.jr_flight.proofs.PlaceLemmas.{none_races}
use Rattle.jr_flight.proofs.flights.Flight.is_raced.Goals as goal

pub returns-then-not-self : goal.returns-then-not-self
returns-then-not-self c =
    let io = c.args.io.now in
    let none : c.self.inside.wrote ≡ false = search rules in
    sym (none_races c.self.inside.wrote io c.self.inside.ids c.self.invariant.0.ordered c.self.invariant.1 none)
    ∙ ap (is_raced io) c.self.view_is
