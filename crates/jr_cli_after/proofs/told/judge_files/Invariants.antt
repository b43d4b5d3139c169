use Rattle.jr_cli_after.specs.Reading.{AreTold}
use Rattle.jr_cli_after.proofs.told.judge_files.Given as goal

-- the files so far were read and told
abbrev pub invariant-loop-file : goal.invariant-loop-file
invariant-loop-file g l =
    AreTold l.judge ((goal.Engine-dyn g l.fn.engine.now).state l.fn.engine.now.1) l.file l.found.items l.unread.items ((goal.Engine-dyn g l.engine.now).state l.engine.now.1)
