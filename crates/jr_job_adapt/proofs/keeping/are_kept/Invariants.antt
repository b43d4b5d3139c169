use Rattle.std.proofs.Common.{◌≡◌, ◌+◌, drop}
use Rattle.jr_job_adapt.specs.Keeping.{are_kept}
use Rattle.jr_job_adapt.proofs.keeping.are_kept.Given as goal

-- the other lines, with what is left of the marks and of the others
abbrev pub invariant-loop-i : goal.invariant-loop-i
invariant-loop-i l = are_kept (l.i + 1) l.marks (drop l.i l.lines) l.others ≡ are_kept 1 l.fn.marks l.lines l.fn.others
