use Rattle.jr_crew_channel.proofs.Steps.{takes}
use Rattle.jr_crew_channel.proofs.handoff.Handoff.take_now.Goals as goal

pub try_recv_as-requires-clause-rule : goal.try_recv_as-requires-clause-rule
try_recv_as-requires-clause-rule g c = (takes _ _ c.requires.parts, λ items views balanced at. tt)
