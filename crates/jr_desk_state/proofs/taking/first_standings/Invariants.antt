use Rattle.std.proofs.Common.{[]}
use Rattle.jr_desk_state.proofs.Preparing.{StandTo}
use Rattle.jr_desk_state.proofs.taking.first_standings.Given as goal

abbrev pub invariant-loop-clone : goal.invariant-loop-clone
invariant-loop-clone l = StandTo l.fn.plan [] l.clone l.standings.items
