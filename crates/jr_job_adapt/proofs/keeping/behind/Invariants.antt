use Rattle.std.proofs.Common.{◌≡◌, drop}
use Rattle.jr_job_adapt.specs.Keeping.{behind}
use Rattle.jr_job_adapt.proofs.keeping.behind.Given as goal

-- the line doesn't stand as one so far
abbrev pub invariant-loop-i : goal.invariant-loop-i
invariant-loop-i l = behind l.mark l.line (drop l.i l.others) ≡ behind l.mark l.line l.others
