-- A chunk of a write, as a write of its own, has the same bytes.
use Rattle.std.proofs.Common.{◌≡◌, ℕ, zero, suc, ◌+◌, ◌-◌, ◌*◌, ◌/◌, ◌%◌, ◌<◌, ◌≤◌, ◌^◌, true, false, ◌&&◌, List, take, drop, flat_map, refl, sym, ap, ◌∙◌, arith, zero-add, append-nil}
use Rattle.std.specs.Prelude.{nat_lt, nat_le, ◌==◌}
use Rattle.std.specs.List.{range_with_len}
use Rattle.std.proofs.lemmas.Bool.{and_parts, and_from, cond-false, eq-eqb, eqb-true, le-leb, leb-true, lt-ltb, not-true}
use Rattle.std.proofs.lemmas.Nat.{div-add-mod', mul-mod}
use Rattle.std.proofs.Math.Nat.{mod_self}
use Rattle.std.proofs.lemmas.List.{drop-drop, drop-take, take-take}
use Rattle.jr_model.specs.declared.limits.TheConstants.{SECTOR, LARGEST_BLOCK, LARGEST_END, MOST_PASSES}
use Rattle.jr_model.specs.declared.blocks.Piece.{Piece}
use Rattle.jr_model.specs.declared.contents.Method.{Method}
use Rattle.jr_model.specs.declared.contents.VerifyKind.{VerifyKind}
use Rattle.jr_model.specs.declared.contents.VerifyKind.TheVariants as verify
use Rattle.jr_model.specs.declared.events.WriteId.{WriteId}
use Rattle.jr_model.specs.Content.{chunk_at, chunk_bytes, chunk_seed, chunk_version, chunks_in, content_of, digested_block, headed_block}
use Rattle.jr_model.specs.Tickets.{has_pattern, has_whole_chunks, interval_fits, piece_fits, ticket_fits}
use Rattle.jr_header.specs.Chunks.{IsInChunks}
use Rattle.jr_header.proofs.ChunkLemmas.{chunk_inside, in_chunks, part_of_flat}
use Rattle.jr_header.proofs.Lengths.{length-chunk}
use Rattle.jr_after.specs.declared.writes.PlannedWrite.{PlannedWrite}
use Rattle.jr_after.specs.Parts.{IsInChunk, IsNarrowed, chunk_alone, is_cut, ticket_of}
use Rattle.jr_after.specs.Writes.{bytes_in}

some_interval : (kind : VerifyKind) (interval : ℕ) → is_cut kind interval ≡ true → (interval == 0) ≡ false
some_interval verify.Plain interval cut = absurd (cc)
some_interval verify.Pattern interval cut = absurd (cc)
some_interval verify.Md5 interval cut = not-true (interval == 0) cut
some_interval verify.Sha1 interval cut = not-true (interval == 0) cut
some_interval verify.Sha256 interval cut = not-true (interval == 0) cut

abbrev all_chunks : Method → WriteId → Piece → ℕ → List ℕ
all_chunks method write piece seed = flat_map (chunk_bytes method write piece seed) (range_with_len 0 (chunks_in method.interval piece))

block_cut : (method : Method) (write : WriteId) (piece : Piece) (seed : ℕ) → (method.interval == 0) ≡ false → digested_block method write piece seed ≡ all_chunks method write piece seed
block_cut method write piece seed some = cond-false (method.interval == 0) _ (all_chunks method write piece seed) some

content_cut : (kind : VerifyKind) (method : Method) (write : WriteId) (piece : Piece) (seed : ℕ) → is_cut kind method.interval ≡ true → content_of kind method write piece seed ≡ all_chunks method write piece seed
content_cut verify.Plain method write piece seed cut = absurd (cc)
content_cut verify.Pattern method write piece seed cut = absurd (cc)
content_cut verify.Md5 method write piece seed cut = block_cut method write piece seed (some_interval verify.Md5 method.interval cut)
content_cut verify.Sha1 method write piece seed cut = block_cut method write piece seed (some_interval verify.Sha1 method.interval cut)
content_cut verify.Sha256 method write piece seed cut = block_cut method write piece seed (some_interval verify.Sha256 method.interval cut)

whole_chunks : (kind : VerifyKind) (interval len : ℕ) → is_cut kind interval ≡ true → interval_fits kind interval len ≡ true → has_whole_chunks interval len ≡ true
whole_chunks verify.Plain interval len cut fits = absurd (cc)
whole_chunks verify.Pattern interval len cut fits = absurd (cc)
whole_chunks verify.Md5 interval len cut fits = fits
whole_chunks verify.Sha1 interval len cut fits = fits
whole_chunks verify.Sha256 interval len cut fits = fits

fits_chunks : (kind : VerifyKind) (interval len : ℕ) → has_whole_chunks interval len ≡ true → interval_fits kind interval len ≡ true
fits_chunks verify.Plain interval len whole = refl
fits_chunks verify.Pattern interval len whole = refl
fits_chunks verify.Md5 interval len whole = whole
fits_chunks verify.Sha1 interval len whole = whole
fits_chunks verify.Sha256 interval len whole = whole

-- one chunk alone
one_time : (n v : ℕ) → 0 < v → n * v ≡ v → n ≡ 1
one_time zero v some h = absurd (omega (arith, some, h))
one_time (suc zero) v some h = refl
one_time (suc (suc n)) v some h = absurd (omega (arith, some, h))

one_chunk : (v : ℕ) → 0 < v → v / v ≡ 1
one_chunk v some = one_time (v / v) v some (omega (arith, div-add-mod' v v, mod_self v))

module _ (planned : PlannedWrite) (part : Piece) (i : ℕ) (fits : ticket_fits (ticket_of planned) ≡ true) (inside : IsInChunk planned part i) where
  abbrev v : ℕ
  v = planned.method.interval

  abbrev kind : VerifyKind
  kind = planned.method.kind

  abbrev piece : Piece
  piece = planned.piece

  abbrev narrow : Piece
  narrow = chunk_at v piece i

  abbrev bytes_at : ℕ → List ℕ
  bytes_at = chunk_bytes planned.method planned.write piece planned.seed

  -- what is known of the write
  parts : (((piece_fits piece ≡ true) × (nat_lt planned.write.pass MOST_PASSES ≡ true)) × (has_pattern kind planned.method.pattern ≡ true)) × (interval_fits kind v piece.len ≡ true)
  parts =
      let four = and_parts (piece_fits piece && nat_lt planned.write.pass MOST_PASSES && has_pattern kind planned.method.pattern && interval_fits kind v piece.len) true fits in
      let three = and_parts (piece_fits piece && nat_lt planned.write.pass MOST_PASSES && has_pattern kind planned.method.pattern) (interval_fits kind v piece.len) four.0 in
      let two = and_parts (piece_fits piece && nat_lt planned.write.pass MOST_PASSES) (has_pattern kind planned.method.pattern) three.0 in
      let one = and_parts (piece_fits piece) (nat_lt planned.write.pass MOST_PASSES) two.0 in
      ((one, two.1), three.1)

  some : (v == 0) ≡ false
  some = some_interval kind v inside.cut

  whole : has_whole_chunks v piece.len ≡ true
  whole = whole_chunks kind v piece.len inside.cut parts.1

  chunks : IsInChunks v piece
  chunks = in_chunks v piece parts.0.0.0 whole some

  within : i * v + v ≤ piece.len
  within = chunk_inside v piece i chunks inside.there

  -- the chunk alone fits
  narrow_fits : piece_fits narrow ≡ true
  narrow_fits =
      let end = and_parts (nat_lt 0 piece.len && nat_le piece.len LARGEST_BLOCK && (piece.len % SECTOR == 0) && (piece.offset % SECTOR == 0)) (nat_le (piece.offset + piece.len) LARGEST_END) parts.0.0.0 in
      let place = and_parts (nat_lt 0 piece.len && nat_le piece.len LARGEST_BLOCK && (piece.len % SECTOR == 0)) (piece.offset % SECTOR == 0) end.0 in
      let size = and_parts (nat_lt 0 piece.len && nat_le piece.len LARGEST_BLOCK) (piece.len % SECTOR == 0) place.0 in
      let most = and_parts (nat_lt 0 piece.len) (nat_le piece.len LARGEST_BLOCK) size.0 in
      let low : piece.len ≤ LARGEST_BLOCK = leb-true piece.len LARGEST_BLOCK most.1 in
      let high : piece.offset + piece.len ≤ LARGEST_END = leb-true (piece.offset + piece.len) LARGEST_END end.1 in
      let sector : piece.offset % 512 ≡ 0 = eqb-true (piece.offset % SECTOR) 0 place.1 in
      and_from _ _
      (and_from _ _
      (and_from _ _
      (and_from _ _ (lt-ltb 0 v (omega (arith, chunks.some))) (le-leb v LARGEST_BLOCK (omega (arith, within, low))))
      (eq-eqb (v % SECTOR) 0 chunks.sectors))
      (eq-eqb ((piece.offset + i * v) % SECTOR) 0 (at_sector sector)))
      (le-leb (piece.offset + i * v + v) LARGEST_END (omega (arith, within, high)))
    where
      at_sector : piece.offset % 512 ≡ 0 → (piece.offset + i * v) % 512 ≡ 0
      at_sector sector =
          let times : (i * v) % 512 ≡ 0 = mul-mod i v 512 ∙ ap (λ (n : ℕ). (i % 512 * n) % 512) chunks.sectors ∙ (let e : (i % 512 * 0) % 512 ≡ 0 = ap (λ (n : ℕ). n % 512) (let z : i % 512 * 0 ≡ 0 = omega arith in z) in e) in
          omega (arith, sector, times)

  alone_whole : has_whole_chunks v v ≡ true
  alone_whole =
      cond-false (v == 0) true ((v % SECTOR == 0) && (v % v == 0)) some
      ∙ and_from (v % SECTOR == 0) (v % v == 0) (eq-eqb (v % SECTOR) 0 chunks.sectors) (eq-eqb (v % v) 0 (mod_self v))

  alone_fits : ticket_fits (ticket_of (chunk_alone planned i)) ≡ true
  alone_fits =
      and_from _ true
      (and_from _ (interval_fits kind v v)
      (and_from _ (has_pattern kind planned.method.pattern)
      (and_from (piece_fits narrow) (nat_lt planned.write.pass MOST_PASSES) narrow_fits parts.0.0.1)
      parts.0.1)
      (fits_chunks kind v v alone_whole))
      refl

  -- it has the bytes of the chunk
  alone_bytes : content_of kind planned.method planned.write narrow (chunk_seed planned.seed i) ≡ bytes_at i
  alone_bytes =
      content_cut kind planned.method planned.write narrow (chunk_seed planned.seed i) inside.cut
      ∙ ap (λ (n : ℕ). flat_map (chunk_bytes planned.method planned.write narrow (chunk_seed planned.seed i)) (range_with_len 0 n)) (one_chunk v (omega (arith, chunks.some)))
      ∙ append-nil (chunk_bytes planned.method planned.write narrow (chunk_seed planned.seed i) 0)
      ∙ ap (λ (n : ℕ). headed_block chunk_version planned.method planned.write (record { file = piece.file; offset = n; len = v }) (chunk_seed (chunk_seed planned.seed i) 0)) first
      ∙ ap (λ (n : ℕ). headed_block chunk_version planned.method planned.write narrow n) seed
    where
      first : piece.offset + i * v + 0 * v ≡ piece.offset + i * v
      first = omega arith

      seed : (((planned.seed + i) % 2 ^ 64) + 0) % 2 ^ 64 ≡ (planned.seed + i) % 2 ^ 64
      seed = omega arith

  same_bytes_in : bytes_in (chunk_alone planned i) part ≡ bytes_in planned part
  same_bytes_in =
      ap (λ (l : List ℕ). take part.len (drop at l)) alone_bytes
      ∙ ap (λ (l : List ℕ). take part.len (drop at l)) (sym part_is)
      ∙ ap (take part.len) (ap (λ (n : ℕ). drop at (take n (drop (i * v) block))) split ∙ drop-take at rest (drop (i * v) block))
      ∙ take-take part.len rest (drop at (drop (i * v) block)) (omega (arith, inside.from, inside.till))
      ∙ ap (take part.len) (drop-drop at (i * v) block ∙ ap (λ (n : ℕ). drop n block) sum)
      ∙ ap (λ (l : List ℕ). take part.len (drop (part.offset - piece.offset) l)) (sym (content_cut kind planned.method planned.write piece planned.seed inside.cut))
    where
      block : List ℕ
      block = all_chunks planned.method planned.write piece planned.seed

      at : ℕ
      at = part.offset - (piece.offset + i * v)

      rest : ℕ
      rest = v - at

      part_is : take v (drop (i * v) block) ≡ bytes_at i
      part_is =
          part_of_flat bytes_at v 0 (chunks_in v piece) i (λ k. length-chunk planned.method planned.write piece planned.seed k chunks) inside.there
          ∙ ap bytes_at (zero-add i)

      split : v ≡ at + rest
      split = omega (arith, inside.from, inside.till)

      sum : i * v + at ≡ part.offset - piece.offset
      sum = omega (arith, inside.from)

  pub chunk_narrowed : IsNarrowed planned part (chunk_alone planned i)
  chunk_narrowed = record {
    fits = alone_fits;
    from = inside.from;
    till = inside.till;
    fewer = omega (arith, within);
    same = same_bytes_in;
  }
