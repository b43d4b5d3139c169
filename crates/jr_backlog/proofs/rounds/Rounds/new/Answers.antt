use Rattle.std.proofs.Common.{arith}
use Rattle.jr_model.specs.History.{write_order}
use Rattle.jr_backlog.proofs.OrderedKeys.{sorted_none}
use Rattle.jr_backlog.proofs.rounds.Rounds.new.Goals as goal

pub invariant_of-result : goal.invariant_of-result
invariant_of-result c = (omega arith, rw c.new.ensures.items (sorted_none write_order))
