use Rattle.std.proofs.Common.{◌≡◌, ◌++◌, drop}
use Rattle.jr_job_adapt.specs.Keeping.{lines_marks}
use Rattle.jr_job_adapt.proofs.marks.add_lines.Given as goal

-- the marks so far, and those of the other lines
abbrev pub invariant-loop-line : goal.invariant-loop-line
invariant-loop-line l = l.marks.items ++ lines_marks l.out (drop l.line-index l.lines) ≡ l.fn.marks.items ++ lines_marks l.out l.lines
