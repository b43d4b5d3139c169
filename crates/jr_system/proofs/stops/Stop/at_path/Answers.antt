use Rattle.std.proofs.Common.{◌∙◌}
use Rattle.jr_system.proofs.stops.Stop.at_path.Goals as goal

pub returns-clause-other : goal.returns-clause-other
returns-clause-other c = λ other. c.file.ensures ∙ c.memory_or.ensures.other other
