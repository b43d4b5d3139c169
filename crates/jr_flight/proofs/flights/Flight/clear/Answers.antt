use Rattle.std.proofs.Common.{◌≡◌, false, rules, sym, ◌∙◌, ap}
use Rattle.jr_flight.specs.Flights.{is_clear, writes}
use Rattle.jr_flight.proofs.PlaceLemmas.{none_waits}
use Rattle.jr_flight.proofs.flights.Flight.clear.Goals as goal

pub returns-then-not-self-clause-value : goal.returns-then-not-self-clause-value
returns-then-not-self-clause-value c =
    let piece = c.args.piece.now in
    let reads : writes c.args.dir ≡ false = search rules in
    let none : c.self.inside.wrote ≡ false = search rules in
    sym (none_waits c.args.declines c.self.inside.wrote c.args.dir piece c.self.inside.ids c.self.invariant.0.ordered c.self.invariant.1 reads none)
    ∙ ap (is_clear c.args.declines c.args.dir piece) c.self.view_is
