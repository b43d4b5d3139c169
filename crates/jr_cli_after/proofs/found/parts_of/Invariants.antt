use Rattle.std.proofs.Common.{◌≡◌, take, map}
use Rattle.jr_cli_after.specs.Reading.{found_at}
use Rattle.jr_cli_after.specs.Sharing.{found_of}
use Rattle.jr_cli_after.proofs.found.parts_of.Given as goal

-- those so far
abbrev pub invariant-loop-chunk : goal.invariant-loop-chunk
invariant-loop-chunk l =
    map found_of l.parts.items ≡ map (found_at l.judge l.piece.offset l.bytes) (take l.chunk-index l.chunks)
