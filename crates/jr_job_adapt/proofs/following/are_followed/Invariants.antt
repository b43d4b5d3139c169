use Rattle.std.proofs.Common.{◌≡◌, drop}
use Rattle.jr_job_adapt.specs.Following.{are_followed}
use Rattle.jr_job_adapt.proofs.following.are_followed.Given as goal

-- the other sections, with what is left of the others
abbrev pub invariant-loop-i : goal.invariant-loop-i
invariant-loop-i l = are_followed l.outs l.i (drop l.i l.sections) l.others ≡ are_followed l.outs 0 l.sections l.fn.others
