use Rattle.jr_crew_channel.specs.Passes.{IsPassOf}
use Rattle.jr_tests_crew.proofs.handover.take_all.Given as goal

abbrev pub invariant-loop : goal.invariant-loop
invariant-loop g l = IsPassOf l.handoff l.pass
