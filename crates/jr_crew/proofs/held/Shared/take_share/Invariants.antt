use Rattle.std.specs.Prelude.{All}
use Rattle.jr_crew.specs.Working.{CanBeServed}
use Rattle.jr_crew.proofs.held.Shared.take_share.Given as goal

-- what is in hand can be carried out
abbrev pub invariant-loop-taken : goal.invariant-loop-taken
invariant-loop-taken g l = All CanBeServed l.tickets.items
