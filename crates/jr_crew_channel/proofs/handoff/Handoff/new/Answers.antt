use Rattle.jr_crew_channel.proofs.Steps.{begins}
use Rattle.jr_crew_channel.proofs.handoff.Handoff.new.Goals as goal

pub bounded_with-requires-clause-rule : goal.bounded_with-requires-clause-rule
bounded_with-requires-clause-rule g c = begins
