use Rattle.jr_crew_channel.specs.Passes.{pass_state}
use Rattle.jr_crew_threads.specs.Judging.{IsJudging}
use Rattle.jr_crew.proofs.verifier.work.Given as goal

-- what was said so far is of what was taken so far
abbrev pub invariant-loop : goal.invariant-loop
invariant-loop g l = IsJudging (pass_state l.channel.pass) l.book.items
