use Rattle.std.proofs.Common.{rules}
use Rattle.jr_model.specs.Content.{header_front}
use Rattle.jr_writes.proofs.fronts.header_front.Goals as goal

pub returns : goal.returns
unfolding header_front
returns c = search rules
