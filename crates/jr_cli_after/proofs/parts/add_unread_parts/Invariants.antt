use Rattle.std.proofs.Common.{false, take, map}
use Rattle.jr_cli_after.specs.Reading.{AreAdded, reading_at}
use Rattle.jr_cli_after.proofs.parts.add_unread_parts.Given as goal

-- those so far were added
abbrev pub invariant-loop-chunk : goal.invariant-loop-chunk
invariant-loop-chunk l =
    AreAdded l.judge (map (reading_at l.piece false l.bytes) (take l.chunk-index l.chunks)) l.initial.told l.told
