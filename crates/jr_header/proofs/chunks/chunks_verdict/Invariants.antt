use Rattle.std.proofs.Common.{ℕ, ◌<◌}
use Rattle.jr_model.specs.Judgement.{chunk_verdict}
use Rattle.jr_header.proofs.ChunkLemmas.{IsNotBad}
use Rattle.jr_header.proofs.chunks.chunks_verdict.Given as goal

abbrev pub invariant-loop-i : goal.invariant-loop-i
invariant-loop-i l = (k : ℕ) → k < l.i → IsNotBad (chunk_verdict l.ticket.method l.ticket.write l.ticket.piece l.seed l.bytes k)
