use Rattle.jr_crew_channel.proofs.Steps.{puts}
use Rattle.jr_crew_channel.proofs.handoff.Handoff.try_put.Goals as goal

pub send_as-requires-clause-rule : goal.send_as-requires-clause-rule
send_as-requires-clause-rule g c = (puts _ _ _ _ c.requires.parts, λ items views balanced at. tt)
