use Rattle.std.specs.Prelude.{Contains}
use Rattle.jr_crew_channel.specs.Passes.{pass_state}
use Rattle.jr_crew_threads.specs.Judging.{AreChecksOf}
use Rattle.jr_crew_threads.specs.Parts.{IsTaker}
use Rattle.jr_crew.proofs.verifier.gather.Given as goal

-- what was taken so far, the next of it too
abbrev pub invariant-loop : goal.invariant-loop
invariant-loop g l =
    IsTaker (pass_state l.fn.channel.pass) (pass_state l.channel.pass)
    × AreChecksOf (pass_state l.channel.pass).taken l.served.items
    × Contains (pass_state l.channel.pass).taken l.next
