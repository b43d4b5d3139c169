use Rattle.std.proofs.Common.{◌≡◌, ◌++◌, drop}
use Rattle.jr_rounds_rest.specs.Told.{part_lines}
use Rattle.jr_rounds_rest.proofs.texts.parts_text.Given as goal

-- the lines so far, and those of the other tasks
abbrev pub invariant-loop-clone : goal.invariant-loop-clone
invariant-loop-clone l = l.text.items ++ part_lines l.round l.clone (drop l.clone l.tasks) ≡ part_lines l.round 0 l.tasks
