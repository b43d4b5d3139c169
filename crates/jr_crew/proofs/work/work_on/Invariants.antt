use Rattle.std.specs.Prelude.{All}
use Rattle.jr_crew_channel.specs.Passes.{pass_state}
use Rattle.jr_crew.specs.Working.{CanBeServed, IsWork}
use Rattle.jr_crew.proofs.work.work_on.Given as goal

-- what is next can be carried out, and the book so far is of the engine's calls so far
abbrev pub invariant-loop : goal.invariant-loop
invariant-loop g l =
    All CanBeServed l.load.tickets.items
    × IsWork l.post.inline ((goal.Engine-dyn g l.fn.engine.now).state l.fn.engine.now.1) (pass_state l.fn.channel.pass) l.load.book
    ((goal.Engine-dyn g l.engine.now).state l.engine.now.1) (pass_state l.channel.pass)
