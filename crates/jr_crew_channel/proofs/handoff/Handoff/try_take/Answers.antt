use Rattle.jr_crew_channel.proofs.Steps.{takes}
use Rattle.jr_crew_channel.proofs.handoff.Handoff.try_take.Goals as goal

pub recv_as-requires-clause-rule : goal.recv_as-requires-clause-rule
recv_as-requires-clause-rule g c = (takes _ _ c.requires.parts, λ items views balanced at. tt)
