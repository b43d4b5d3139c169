-- How long the bytes of a write are.
use Rattle.std.proofs.Common.{◌≡◌, ℕ, ◌-◌, ◌/◌, ◌%◌, ◌≤◌, List, length, flat_map, Bool, true, false, cond, Option, Some, None, refl, ◌∙◌, arith, length-append}
use Rattle.std.specs.Prelude.{◌==◌}
use Rattle.std.specs.List.{range_with_len}
use Rattle.jr_model.specs.declared.blocks.Piece.{Piece}
use Rattle.jr_model.specs.declared.contents.Method.{Method}
use Rattle.jr_model.specs.declared.contents.VerifyKind.{VerifyKind}
use Rattle.jr_model.specs.declared.contents.VerifyKind.TheVariants as verify
use Rattle.jr_model.specs.declared.events.WriteId.{WriteId}
use Rattle.jr_model.specs.Content.{block_version, chunk_version, filler_of, data_area, header_of, headed_block, chunk_at, chunk_seed, chunks_in, chunk_bytes, digested_block, content_of}
use Rattle.jr_model.specs.Tickets.{piece_fits, has_whole_chunks, interval_fits}
use Rattle.jr_model.specs.Words.{seeded, words_from}
use Rattle.jr_words.proofs.WordLemmas.{length-word_bytes, length-words_from}
use Rattle.jr_header.specs.Chunks.{IsInChunks}
use Rattle.jr_header.proofs.ChunkLemmas.{whole_blocks, in_chunks, length-flat}
use Rattle.jr_header.proofs.Headers.{length-header_over}
use Rattle.jr_header.proofs.Patterns.{length-pattern_bytes}

pub length-filler_of : (pattern : Option (List ℕ)) (seed n : ℕ) → n % 8 ≡ 0 → length (filler_of pattern seed n) ≡ n
length-filler_of (Some p) seed n whole = length-pattern_bytes p n
length-filler_of None seed n whole =
    let words : List ℕ = words_from (seeded seed) (n / 8) in
    let size : length words ≡ n / 8 = length-words_from (seeded seed) (n / 8) in
    length-word_bytes words ∙ omega (arith, size, whole)

-- a header and its data area, where the piece is whole blocks
pub length-headed_block : (version : ℕ) (method : Method) (write : WriteId) (piece : Piece) (seed : ℕ) → 512 ≤ piece.len → piece.len % 512 ≡ 0 → length (headed_block version method write piece seed) ≡ piece.len
length-headed_block version method write piece seed some blocks =
    let area : List ℕ = data_area method piece seed in
    let whole : (piece.len - 64) % 8 ≡ 0 = omega (arith, blocks, some) in
    let size : length area ≡ piece.len - 64 = length-filler_of method.pattern seed (piece.len - 64) whole in
    omega (arith, size, some, length-header_over version method.kind write piece area, length-append (header_of version method write piece seed) area)

-- each chunk of a block is as long as the interval
pub length-chunk : (method : Method) (write : WriteId) (piece : Piece) (seed i : ℕ) → IsInChunks method.interval piece → length (chunk_bytes method write piece seed i) ≡ method.interval
length-chunk method write piece seed i chunks =
    length-headed_block chunk_version method write (chunk_at method.interval piece i) (chunk_seed seed i) chunks.some chunks.sectors

length-digested_block : (method : Method) (write : WriteId) (piece : Piece) (seed : ℕ) → piece_fits piece ≡ true → has_whole_chunks method.interval piece.len ≡ true → length (digested_block method write piece seed) ≡ piece.len
length-digested_block method write piece seed fits whole = by (method.interval == 0) refl
  where
    block : List ℕ
    block = headed_block block_version method write piece seed

    chunks : List ℕ
    chunks = flat_map (chunk_bytes method write piece seed) (range_with_len 0 (chunks_in method.interval piece))

    by : (b : Bool) → (method.interval == 0) ≡ b → length (cond b block chunks) ≡ piece.len
    by true one =
        let blocks = whole_blocks piece fits in
        length-headed_block block_version method write piece seed blocks.0 blocks.1
    by false many =
        let cut = in_chunks method.interval piece fits whole many in
        length-flat (chunk_bytes method write piece seed) method.interval 0 (chunks_in method.interval piece) (λ k. length-chunk method write piece seed k cut)
        ∙ cut.whole

-- a write has as many bytes as its piece
pub length-content_of : (kind : VerifyKind) (method : Method) (write : WriteId) (piece : Piece) (seed : ℕ) → piece_fits piece ≡ true → interval_fits kind method.interval piece.len ≡ true → length (content_of kind method write piece seed) ≡ piece.len
length-content_of verify.Plain method write piece seed fits whole = length-filler_of method.pattern seed piece.len (omega (arith, (whole_blocks piece fits).1))
length-content_of verify.Pattern method write piece seed fits whole = length-filler_of method.pattern seed piece.len (omega (arith, (whole_blocks piece fits).1))
length-content_of verify.Md5 method write piece seed fits whole = length-digested_block method write piece seed fits whole
length-content_of verify.Sha1 method write piece seed fits whole = length-digested_block method write piece seed fits whole
length-content_of verify.Sha256 method write piece seed fits whole = length-digested_block method write piece seed fits whole
