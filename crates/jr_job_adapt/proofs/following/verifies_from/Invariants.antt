use Rattle.std.proofs.Common.{◌≡◌, drop}
use Rattle.jr_job_adapt.specs.Following.{verifies_from}
use Rattle.jr_job_adapt.proofs.following.verifies_from.Given as goal

-- what is said so far, with the other lines
abbrev pub invariant-loop-line : goal.invariant-loop-line
invariant-loop-line l = verifies_from l.verifies (drop l.line-index l.lines) ≡ verifies_from l.fn.before l.lines
