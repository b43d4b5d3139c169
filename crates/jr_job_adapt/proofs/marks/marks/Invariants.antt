use Rattle.std.proofs.Common.{◌≡◌, ◌++◌, drop}
use Rattle.jr_job_adapt.specs.Keeping.{marks_from}
use Rattle.jr_job_adapt.proofs.marks.marks.Given as goal

-- the marks so far, and those of the other sections
abbrev pub invariant-loop-i : goal.invariant-loop-i
invariant-loop-i l = l.marks.items ++ marks_from l.outs l.i (drop l.i l.sections) ≡ marks_from l.outs 0 l.sections
