use Rattle.std.proofs.Common.{◌≡◌, map}
use Rattle.std.specs.List.{range_with_len}
use Rattle.jr_model.specs.Rounds.{pass_of}
use Rattle.jr_replay_passes.proofs.agendas.passes_of.Given as goal

abbrev pub invariant-loop-number : goal.invariant-loop-number
invariant-loop-number l = l.passes.items ≡ map (pass_of l.job) (range_with_len 0 l.number)
