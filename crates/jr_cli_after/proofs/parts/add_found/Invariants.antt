use Rattle.std.proofs.Common.{true, take, map}
use Rattle.jr_cli_after.specs.Reading.{AreAdded, reading_at}
use Rattle.jr_cli_after.proofs.parts.add_found.Given as goal

-- those so far were added
abbrev pub invariant-loop-place : goal.invariant-loop-place
invariant-loop-place l =
    AreAdded l.judge (map (reading_at l.piece true l.bytes) (take l.place l.chunks)) l.initial.told l.told
