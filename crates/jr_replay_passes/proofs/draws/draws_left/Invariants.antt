use Rattle.std.proofs.Common.{◌≡◌, ◌++◌, ◌-◌}
use Rattle.jr_draw.specs.Drawing.{draws_left}
use Rattle.jr_model.specs.Words.{words_from}
use Rattle.jr_replay_passes.proofs.draws.draws_left.Given as goal

abbrev pub invariant-loop : goal.invariant-loop
invariant-loop l =
    l.draws.items ++ draws_left words_from l.drawer (l.most - l.counter) ≡ draws_left words_from l.fn.drawer l.most
