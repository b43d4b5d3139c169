use Rattle.jr_crew_channel.specs.Passes.{IsPassOf}
use Rattle.jr_tests_crew.proofs.handover.put_all.Given as goal

abbrev pub invariant-loop-parcel : goal.invariant-loop-parcel
invariant-loop-parcel g l =
    (goal.iterator-loop-parcel g).can_next l.parcel-iterator × (goal.iterator-loop-parcel g).is_finite l.parcel-iterator
    × IsPassOf l.handoff l.pass
