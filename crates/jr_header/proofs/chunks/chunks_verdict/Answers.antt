use Rattle.std.proofs.Common.{◌≡◌, ℕ, ◌+◌, ◌-◌, ◌*◌, ◌<◌, ◌≤◌, take, drop, inl, inr, sym, ap, ◌∙◌, arith}
use Rattle.std.proofs.lemmas.Bool.{cases_lt}
use Rattle.jr_model.specs.Content.{chunk_header, chunks_in}
use Rattle.jr_model.specs.Judgement.{chunk_verdict, header_verdict, in_chunk}
use Rattle.jr_header.proofs.ChunkLemmas.{none_bad, bad_at}
use Rattle.jr_header.proofs.chunks.chunks_verdict.Goals as goal

pub returns-in-Bad : goal.returns-in-Bad
returns-in-Bad c =
    let t = c.args.ticket.now in
    let bytes = c.args.bytes.now in
    let i = c.loop-i.i in
    let v = t.method.interval in
    let step : i * v + v - i * v ≡ v = omega arith in
    let here : chunk_verdict t.method t.write t.piece c.args.seed bytes i ≡ c.chunk_verdict.result =
    sym (c.chunk_verdict.ensures ∙ ap (λ (k : ℕ). in_chunk i (header_verdict t.method.kind (chunk_header t.method t.write t.piece c.args.seed i) (take k (drop (i * v) bytes)))) step) in
    sym (bad_at (chunk_verdict t.method t.write t.piece c.args.seed bytes) 0 (chunks_in v t.piece) i c.in-Bad.what (omega arith) (omega arith)
    (λ (k : ℕ) (least : 0 ≤ k) (below : k < i). c.loop-i.invariant k below) (here ∙ c.in-Bad.is))

pub loop-i-preserved : goal.loop-i-preserved
loop-i-preserved c k below what bad =
    let t = c.args.ticket.now in
    let bytes = c.args.bytes.now in
    let i = c.loop-i.i in
    let v = t.method.interval in
    let step : i * v + v - i * v ≡ v = omega arith in
    let here : chunk_verdict t.method t.write t.piece c.args.seed bytes i ≡ c.chunk_verdict.result =
    sym (c.chunk_verdict.ensures ∙ ap (λ (k : ℕ). in_chunk i (header_verdict t.method.kind (chunk_header t.method t.write t.piece c.args.seed i) (take k (drop (i * v) bytes)))) step) in
    elim (cases_lt k i) [
      | inl before ↦ c.loop-i.invariant k before what bad
      | inr last ↦
          let same : k ≡ i = omega (arith, below, last) in
          c.in_default.not-Bad what (sym here ∙ sym (ap (chunk_verdict t.method t.write t.piece c.args.seed bytes) same) ∙ bad)
    ]

pub returns : goal.returns
returns c =
    let t = c.args.ticket.now in
    sym (none_bad (chunk_verdict t.method t.write t.piece c.args.seed c.args.bytes.now) 0 (chunks_in t.method.interval t.piece)
    (λ (k : ℕ) (least : 0 ≤ k) (below : k < 0 + chunks_in t.method.interval t.piece). c.loop-i.invariant k (omega (arith, below))))
