use Rattle.std.proofs.Common.{◌≡◌, ℕ, ◌+◌, ◌-◌, ◌*◌, ◌<◌, ◌≤◌, take, drop, inl, inr, sym, ap, ◌∙◌, arith}
use Rattle.std.proofs.lemmas.Bool.{cases_lt}
use Rattle.jr_model.specs.Content.{chunk_at, chunk_version, chunks_in}
use Rattle.jr_model.specs.Judgement.{in_chunk, own_chunk_verdict, own_header_verdict}
use Rattle.jr_header.proofs.ChunkLemmas.{none_bad, bad_at}
use Rattle.jr_header.proofs.own.cut_chunks_verdict.Goals as goal

pub returns-in-Bad : goal.returns-in-Bad
returns-in-Bad c =
    let kind = c.args.kind in
    let piece = c.args.piece.now in
    let bytes = c.args.bytes.now in
    let i = c.loop-i.i in
    let v = c.args.interval in
    let step : i * v + v - i * v ≡ v = omega arith in
    let here : own_chunk_verdict kind v piece bytes i ≡ c.own_chunk_verdict.result =
    sym (c.own_chunk_verdict.ensures ∙ ap (λ (k : ℕ). in_chunk i (own_header_verdict chunk_version kind (chunk_at v piece i) (take k (drop (i * v) bytes)))) step) in
    sym (bad_at (own_chunk_verdict kind v piece bytes) 0 (chunks_in v piece) i c.in-Bad.what (omega arith) (omega arith)
    (λ (k : ℕ) (least : 0 ≤ k) (below : k < i). c.loop-i.invariant k below) (here ∙ c.in-Bad.is))

pub loop-i-preserved : goal.loop-i-preserved
loop-i-preserved c k below what bad =
    let kind = c.args.kind in
    let piece = c.args.piece.now in
    let bytes = c.args.bytes.now in
    let i = c.loop-i.i in
    let v = c.args.interval in
    let step : i * v + v - i * v ≡ v = omega arith in
    let here : own_chunk_verdict kind v piece bytes i ≡ c.own_chunk_verdict.result =
    sym (c.own_chunk_verdict.ensures ∙ ap (λ (k : ℕ). in_chunk i (own_header_verdict chunk_version kind (chunk_at v piece i) (take k (drop (i * v) bytes)))) step) in
    elim (cases_lt k i) [
      | inl before ↦ c.loop-i.invariant k before what bad
      | inr last ↦
          let same : k ≡ i = omega (arith, below, last) in
          c.in_default.not-Bad what (sym here ∙ sym (ap (own_chunk_verdict kind v piece bytes) same) ∙ bad)
    ]

pub returns : goal.returns
returns c =
    let v = c.args.interval in
    let piece = c.args.piece.now in
    sym (none_bad (own_chunk_verdict c.args.kind v piece c.args.bytes.now) 0 (chunks_in v piece)
    (λ (k : ℕ) (least : 0 ≤ k) (below : k < 0 + chunks_in v piece). c.loop-i.invariant k (omega (arith, below))))
