use Rattle.std.proofs.Common.{◌≡◌, drop}
use Rattle.jr_after_chunks.specs.Next.{earlier, next_chunk}
use Rattle.jr_after_chunks.proofs.next.first_chunk.Given as goal

-- the first one so far, and those of the other clones
abbrev pub invariant-loop-i : goal.invariant-loop-i
invariant-loop-i l = earlier l.first (next_chunk (drop l.i l.plan.clones) l.file l.from) ≡ next_chunk l.plan.clones l.file l.from
