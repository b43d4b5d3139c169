use Rattle.std.proofs.Common.{◌≡◌, ◌++◌, length, drop}
use Rattle.jr_job_adapt.specs.Keeping.{lines_in}
use Rattle.jr_job_adapt.proofs.keeping.lines_of.Given as goal

-- the lines so far, and the others
abbrev pub invariant-loop-line : goal.invariant-loop-line
invariant-loop-line l =
    (goal.iterator-loop-line).can_next l.line-iterator ×
    (goal.iterator-loop-line).is_finite l.line-iterator ×
    (l.lines.items ++ drop (length l.yielded) (lines_in l.text) ≡ lines_in l.text)
