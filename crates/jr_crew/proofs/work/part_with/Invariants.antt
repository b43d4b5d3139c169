use Rattle.std.specs.Prelude.{◌≡◌}
use Rattle.jr_crew_channel.specs.Passes.{pass_state}
use Rattle.jr_crew.specs.Working.{all_handed_on}
use Rattle.jr_crew.proofs.work.part_with.Given as goal

-- those so far were handed on
abbrev pub invariant-loop-one : goal.invariant-loop-one
invariant-loop-one g l = pass_state l.channel.pass ≡ all_handed_on l.inline l.yielded (pass_state l.initial.channel.pass)
