use Rattle.std.proofs.Common.{take}
use Rattle.jr_after_chunks.specs.Index.{IsIndexOf}
use Rattle.jr_after_chunks.proofs.index.index_of.Given as goal

-- it is that of the writes so far
abbrev pub invariant-loop-place : goal.invariant-loop-place
invariant-loop-place l = IsIndexOf l.index (take l.place l.named)
