use Rattle.std.proofs.Common.{◌≡◌, take}
use Rattle.jr_replay_passes.proofs.agendas.clones_of.Given as goal

abbrev pub invariant-loop-i : goal.invariant-loop-i
invariant-loop-i l = l.clones.items ≡ take l.i l.plan.clones
