use Rattle.std.proofs.Common.{◌≡◌, ◌++◌, ◌-◌, filter_map}
use Rattle.jr_draw.specs.Drawing.{draws_left}
use Rattle.jr_model.specs.Words.{words_from}
use Rattle.jr_after.specs.Writes.{write_of_draw, writes_of_pass}
use Rattle.jr_after_plans.proofs.planned.push_pass.Given as goal

-- the writes so far, and those among the draws that are still to come
abbrev pub invariant-loop : goal.invariant-loop
invariant-loop l =
    l.writes.items ++ filter_map (write_of_draw l.job l.pass) (draws_left words_from l.drawer (l.job.cells - l.counter))
    ≡ l.initial.writes.items ++ writes_of_pass l.job l.pass
