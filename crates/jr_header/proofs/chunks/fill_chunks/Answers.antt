use Rattle.std.proofs.Common.{◌≡◌, ℕ, ◌+◌, ◌-◌, ◌*◌, ◌≤◌, List, ◌++◌, length, take, flat_map, ap, ◌∙◌, arith}
use borrow.Rule.Slice.PartMut.{put_mid, mid_len}
use Rattle.std.specs.List.{range_with_len}
use Rattle.jr_model.specs.declared.blocks.Piece.{Piece}
use Rattle.jr_model.specs.Content.{chunk_version, headed_block, chunk_at, chunk_bytes}
use Rattle.jr_header.proofs.ChunkLemmas.{chunk_inside, flat_more, take_put_more, length-put}
use Rattle.jr_header.proofs.chunks.fill_chunks.Goals as goal

pub loop-i-preserved : goal.loop-i-preserved
loop-i-preserved c =
    let t = c.args.ticket.now in
    let i = c.loop-i.i in
    let v = t.method.interval in
    let buffer = c.loop-i.buffer in
    let chunk = c.fill_headed.new.buffer in
    let inside : i * v + v ≤ t.piece.len = chunk_inside v t.piece i c.requires.chunks c.loop-i-test.true in
    let room : i * v + v ≤ length buffer = omega (arith, inside, c.loop-i.invariant.size, c.requires.length) in
    let step : i * v + v - i * v ≡ v = omega arith in
    let size : length chunk ≡ v = c.fill_headed.auto.buffer ∙ mid_len (i * v) (i * v + v) buffer room ∙ step in
    let made : chunk ≡ chunk_bytes t.method t.write t.piece t.seed i =
    c.fill_headed.ensures.block
    ∙ ap (λ (p : Piece). headed_block chunk_version t.method t.write p c.chunk_seed-seed.result) c.chunk_at-piece.ensures
    ∙ ap (headed_block chunk_version t.method t.write (chunk_at v t.piece i)) c.chunk_seed-seed.ensures in
    let next : (i + 1) * v ≡ i * v + v = omega arith in
    record {
      size = length-put (i * v) v buffer chunk size room ∙ c.loop-i.invariant.size;
      begun = ap (λ (k : ℕ). take k (put_mid (i * v) (i * v + v - i * v) buffer chunk)) next ∙ take_put_more (i * v) v buffer chunk size room
          ∙ ap (λ (xs : List ℕ). xs ++ chunk) c.loop-i.invariant.begun
          ∙ ap (λ (xs : List ℕ). flat_map (chunk_bytes t.method t.write t.piece t.seed) (range_with_len 0 i) ++ xs) made
          ∙ flat_more (chunk_bytes t.method t.write t.piece t.seed) i;
    }
