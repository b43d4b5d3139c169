use Rattle.std.proofs.Common.{◌≡◌, ◌++◌, flat_map}
use Rattle.std.specs.List.{range_with_len}
use Rattle.jr_after.specs.Writes.{writes_of_pass}
use Rattle.jr_after_plans.proofs.planned.push_clone.Given as goal

-- those of the passes so far were added
abbrev pub invariant-loop-pass : goal.invariant-loop-pass
invariant-loop-pass l = l.writes.items ≡ l.initial.writes.items ++ flat_map (writes_of_pass l.job) (range_with_len 0 l.pass)
