use Rattle.std.proofs.Common.{ℕ, ◌<◌}
use Rattle.jr_model.specs.Judgement.{own_chunk_verdict}
use Rattle.jr_header.proofs.ChunkLemmas.{IsNotBad}
use Rattle.jr_header.proofs.own.cut_chunks_verdict.Given as goal

abbrev pub invariant-loop-i : goal.invariant-loop-i
invariant-loop-i l = (k : ℕ) → k < l.i → IsNotBad (own_chunk_verdict l.kind l.interval l.piece l.bytes k)
