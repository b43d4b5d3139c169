use Rattle.jr_crew.specs.Working.{AreAnswered}
use Rattle.jr_crew.proofs.work.serve_all.Given as goal

-- the answers so far are the engine's so far
abbrev pub invariant-loop-ticket : goal.invariant-loop-ticket
invariant-loop-ticket g l =
    AreAnswered ((goal.Engine-dyn g l.fn.engine.now).state l.fn.engine.now.1) l.all.items ((goal.Engine-dyn g l.engine.now).state l.engine.now.1)
