use Rattle.std.proofs.Common.{◌≡◌, take, flat_map}
use Rattle.jr_after_chunks.specs.Judging.{over_at}
use Rattle.jr_after_chunks.proofs.judging.one_at_most.Given as goal

-- those so far
abbrev pub invariant-loop-place : goal.invariant-loop-place
invariant-loop-place l = l.over ≡ flat_map (over_at l.chunk l.named) (take l.place-index l.places)
