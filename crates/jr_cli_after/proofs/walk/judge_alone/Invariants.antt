use Rattle.std.proofs.Common.{take}
use Rattle.jr_cli_after.specs.Reading.{AreAlone}
use Rattle.jr_cli_after.proofs.walk.judge_alone.Given as goal

-- those so far were read and added
abbrev pub invariant-loop-chunk : goal.invariant-loop-chunk
invariant-loop-chunk g l =
    AreAlone l.judge (take l.chunk-index l.chunks) ((goal.Engine-dyn g l.initial.engine.now).state l.initial.engine.now.1) l.initial.told l.told ((goal.Engine-dyn g l.engine.now).state l.engine.now.1)
