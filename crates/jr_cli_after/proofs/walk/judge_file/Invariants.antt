use Rattle.std.proofs.Common.{◌≤◌, ◌-◌}
use Rattle.jr_model.specs.declared.limits.TheConstants.{LARGEST_END}
use Rattle.jr_cli_after.specs.Reading.{IsWalk}
use Rattle.jr_cli_after.proofs.walk.judge_file.Given as goal

-- the chunks up to here were read and told
abbrev pub invariant-loop-first : goal.invariant-loop-first
invariant-loop-first g l =
    (l.from ≤ LARGEST_END)
    × IsWalk l.judge l.file ((goal.Engine-dyn g l.fn.engine.now).state l.fn.engine.now.1) l.from l.told ((goal.Engine-dyn g l.engine.now).state l.engine.now.1)

abbrev pub decreases-loop-first : goal.decreases-loop-first
decreases-loop-first g l = LARGEST_END - l.from
