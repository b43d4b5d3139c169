use Rattle.std.proofs.Common.{◌≡◌, ◌++◌, drop, flat_map}
use Rattle.jr_rounds_rest.specs.Told.{untried_line, untried_text}
use Rattle.jr_rounds_rest.proofs.texts.untried_text.Given as goal

-- the lines so far, and those of the other clones
abbrev pub invariant-loop-i : goal.invariant-loop-i
invariant-loop-i l = l.text.items ++ flat_map (untried_line l.plan l.tasks) (drop l.i l.plan.clones) ≡ untried_text l.plan l.tasks
