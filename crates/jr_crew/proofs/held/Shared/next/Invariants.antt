use Rattle.std.specs.Prelude.{All}
use Rattle.jr_crew.specs.Working.{CanBeServed}
use Rattle.jr_crew.proofs.held.Shared.next.Given as goal

-- what is in hand can be carried out
abbrev pub invariant-loop : goal.invariant-loop
invariant-loop g l = All CanBeServed l.tickets.items
