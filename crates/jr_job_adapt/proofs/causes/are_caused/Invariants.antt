use Rattle.std.proofs.Common.{◌≡◌, drop, Ok}
use Rattle.std.specs.Prelude.{IfOk}
use Rattle.jr_job_options.specs.Options.{AreInRange, default_options}
use Rattle.jr_job_adapt.specs.Causes.{are_caused}
use Rattle.jr_job_adapt.proofs.causes.are_caused.Given as goal

-- the other sections, with what the global ones so far say
abbrev pub invariant-loop-i : goal.invariant-loop-i
invariant-loop-i l =
    (IfOk l.above AreInRange) ×
    (are_caused l.outs l.i l.above (drop l.i l.sections) ≡ are_caused l.outs 0 (Ok default_options) l.sections)
