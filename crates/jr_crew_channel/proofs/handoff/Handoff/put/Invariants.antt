use Rattle.std.proofs.Common.{◌≡◌}
use Rattle.jr_crew_channel.specs.Passes.{IsPassOf, pass_state}
use Rattle.jr_crew_channel.proofs.handoff.Handoff.put.Given as goal

abbrev pub invariant-loop : goal.invariant-loop
invariant-loop g l =
    (goal.iterator-loop g).can_next l.iterator' × (goal.iterator-loop g).is_finite l.iterator'
    × IsPassOf l.self l.pass × (pass_state l.pass ≡ pass_state l.fn.pass) × (l.parcel ≡ l.fn.parcel)
