use Rattle.std.proofs.Common.{◌≡◌, take, map}
use Rattle.jr_after.specs.Findings.{named_by}
use Rattle.jr_after_chunks.proofs.judging.all_named.Given as goal

-- those so far
abbrev pub invariant-loop-planned : goal.invariant-loop-planned
invariant-loop-planned l = l.named.items ≡ map (named_by l.lines) (take l.planned-index l.writes)
