-- A verdict is Good on the bytes that a write put there, and on no others as far as digests tell them apart.
use Rattle.std.proofs.Common.{◌≡◌, ℕ, ◌+◌, ◌<◌, ◌≤◌, List, ◌++◌, length, take, drop, flat_map, Bool, true, false, cond, Some, None, Option, refl, sym, ap, ◌∙◌, arith, zero-add, length-append}
use Rattle.std.specs.Prelude.{◌==◌, slice_range, is_some, if◌then◌else◌}
use Rattle.std.specs.Bool.{MatchBool}
use Rattle.std.specs.List.{range_with_len}
use Rattle.std.proofs.lemmas.List.{take_at, drop_at, take-append-drop, drop-drop, append_assoc}
use Rattle.std.proofs.lemmas.Slice.Eq.{bytes_eq-Decides}
use Rattle.jr_model.specs.declared.blocks.Piece.{Piece}
use Rattle.jr_model.specs.declared.events.WriteId.{WriteId}
use Rattle.jr_model.specs.declared.events.What.TheVariants.{Header, Digest, DataArea}
use Rattle.jr_model.specs.declared.events.Verdict.TheVariants.{Good, Bad}
use Rattle.jr_model.specs.declared.contents.VerifyKind.{VerifyKind}
use Rattle.jr_model.specs.declared.contents.VerifyKind.TheVariants as verify
use Rattle.jr_model.specs.declared.contents.Expected.TheVariants as expected
use Rattle.jr_model.specs.declared.contents.Method.{Method}
use Rattle.jr_model.specs.Content.{pattern_bytes, digest_of, digest_length, block_version, chunk_version, header_front, header_back, header_of, headed_block, data_area, chunk_at, chunk_seed, chunks_in, chunk_header, chunk_bytes, digested_block, content_of, expected_headers, expected_of, expected_pattern, filler_of}
use Rattle.jr_model.specs.Judgement.{digest_in, is_checked, same_bytes, header_verdict, first_difference, byte_verdict, in_chunk, bytes_of_chunk, chunk_verdict, chunks_verdict, own_verdict_of, pattern_verdict, verdict_of, TellsApart, AreasToldApart}
use Rattle.jr_model.specs.Tickets.{piece_fits, has_whole_chunks, interval_fits}
use Rattle.jr_header.specs.Chunks.{IsInChunks}
use Rattle.jr_header.proofs.ChunkLemmas.{in_chunks, part_of_flat, flat_by_parts, all_good, good_each, good_in_chunk}
use Rattle.jr_header.proofs.Lengths.{length-chunk}
use Rattle.jr_header.proofs.Differences.{none_differs, same_from-first_difference}
use Rattle.jr_header.proofs.Headers.{length-header_front, length-header_back}
use Rattle.jr_header.proofs.Patterns.{length-pattern_bytes}
use Rattle.jr_header.proofs.Verdicts.{all_same, digest-header_back, chunk_speaks}

-- the same list twice
same_twice : (xs ys : List ℕ) → xs ≡ ys → same_bytes xs ys ≡ true
same_twice xs ys same = (bytes_eq-Decides xs ys).1 same

-- a header with its own data area behind it
good_block : (kind : VerifyKind) (front back area : List ℕ) → length front ≡ 32 → length back ≡ 32 → back ≡ header_back kind area
    → header_verdict kind (front ++ back) ((front ++ back) ++ area) ≡ Good
good_block kind front back area front_len back_len is =
    let header : List ℕ = front ++ back in
    let header_len : length header ≡ 64 = omega (arith, length-append front back) in
    let block_is : header ++ area ≡ front ++ (back ++ area) = append_assoc front back area in
    let bytes_front : take 32 (header ++ area) ≡ front = ap (take 32) block_is ∙ take_at front (back ++ area) 32 front_len in
    let header_first : take 32 header ≡ front = take_at front back 32 front_len in
    let header_rest : drop 32 header ≡ back = drop_at front back 32 front_len in
    let bytes_back : slice_range (header ++ area) 32 64 ≡ back =
    ap (λ (xs : List ℕ). take 32 (drop 32 xs)) block_is ∙ ap (take 32) (drop_at front (back ++ area) 32 front_len) ∙ take_at back area 32 back_len in
    let bytes_area : drop 64 (header ++ area) ≡ area = drop_at header area 64 header_len in
    all_same kind header (header ++ area)
    (same_twice _ _ (bytes_front ∙ sym header_first))
    (same_twice _ _ (bytes_back ∙ sym header_rest))
    (same_twice _ _ (ap (digest_of kind) bytes_area ∙ sym (ap (take (digest_length kind)) (header_rest ∙ is) ∙ digest-header_back kind area)))

good_headed : (version : ℕ) (method : Method) (write : WriteId) (piece : Piece) (seed : ℕ)
    → header_verdict method.kind (header_of version method write piece seed) (headed_block version method write piece seed) ≡ Good
good_headed version method write piece seed =
    let area : List ℕ = data_area method piece seed in
    good_block method.kind (header_front version method.kind write piece) (header_back method.kind area) area
    (length-header_front version method.kind write piece) (length-header_back method.kind area) refl

good_pattern : (pattern : Option (List ℕ)) (method : Method) (write : WriteId) (piece : Piece) (seed n : ℕ) → verify.Pattern ≡ method.kind → pattern ≡ method.pattern
    → verdict_of method write piece (expected_pattern pattern) (filler_of pattern seed n) ≡ Good
good_pattern None method write piece seed n same here =
    let bytes : List ℕ = filler_of None seed n in
    ap (λ (kind : VerifyKind). own_verdict_of kind method.pattern piece bytes) (sym same)
    ∙ ap (λ (pattern : Option (List ℕ)). pattern_verdict pattern bytes) (sym here)
good_pattern (Some p) method write piece seed n same here =
    ap byte_verdict (none_differs p (pattern_bytes p n) (ap (pattern_bytes p) (sym (length-pattern_bytes p n))))

-- in each place of a block of chunks its chunk stands
chunk_there : (method : Method) (write : WriteId) (piece : Piece) (seed i : ℕ) → IsInChunks method.interval piece → i < chunks_in method.interval piece
    → bytes_of_chunk method.interval i (flat_map (chunk_bytes method write piece seed) (range_with_len 0 (chunks_in method.interval piece))) ≡ chunk_bytes method write piece seed i
chunk_there method write piece seed i chunks below =
    part_of_flat (chunk_bytes method write piece seed) method.interval 0 (chunks_in method.interval piece) i (λ k. length-chunk method write piece seed k chunks) below
    ∙ ap (chunk_bytes method write piece seed) (zero-add i)

good_chunks : (method : Method) (write : WriteId) (piece : Piece) (seed : ℕ) → IsInChunks method.interval piece
    → chunks_verdict method write piece seed (flat_map (chunk_bytes method write piece seed) (range_with_len 0 (chunks_in method.interval piece))) ≡ Good
good_chunks method write piece seed chunks =
    let block : List ℕ = flat_map (chunk_bytes method write piece seed) (range_with_len 0 (chunks_in method.interval piece)) in
    all_good (chunk_verdict method write piece seed block) 0 (chunks_in method.interval piece)
    (λ (i : ℕ) (least : 0 ≤ i) (below : i < 0 + chunks_in method.interval piece).
    let inside : i < chunks_in method.interval piece = omega (arith, below) in
    ap (λ (bytes : List ℕ). in_chunk i (header_verdict method.kind (chunk_header method write piece seed i) bytes)) (chunk_there method write piece seed i chunks inside)
    ∙ ap (in_chunk i) (good_headed chunk_version method write (chunk_at method.interval piece i) (chunk_seed seed i)))

good_digested : (method : Method) (write : WriteId) (piece : Piece) (seed : ℕ) → piece_fits piece ≡ true → has_whole_chunks method.interval piece.len ≡ true
    → verdict_of method write piece (expected_headers method write piece seed) (digested_block method write piece seed) ≡ Good
good_digested method write piece seed fits whole = by (method.interval == 0) refl
  where
    header : List ℕ
    header = header_of block_version method write piece seed

    block : List ℕ
    block = headed_block block_version method write piece seed

    chunks : List ℕ
    chunks = flat_map (chunk_bytes method write piece seed) (range_with_len 0 (chunks_in method.interval piece))

    by : (b : Bool) → (method.interval == 0) ≡ b → verdict_of method write piece (cond b (expected.Header header) (expected.Seed seed)) (cond b block chunks) ≡ Good
    by true one = good_headed block_version method write piece seed
    by false many = good_chunks method write piece seed (in_chunks method.interval piece fits whole many)

-- the bytes of a write are good
pub good_on_content : (method : Method) (write : WriteId) (piece : Piece) (seed : ℕ) (kind : VerifyKind) → kind ≡ method.kind → piece_fits piece ≡ true → interval_fits kind method.interval piece.len ≡ true
    → verdict_of method write piece (expected_of kind method write piece seed) (content_of kind method write piece seed) ≡ Good
good_on_content method write piece seed verify.Plain same fits whole =
    ap (λ (kind : VerifyKind). own_verdict_of kind method.pattern piece (filler_of method.pattern seed piece.len)) (sym same)
good_on_content method write piece seed verify.Pattern same fits whole = good_pattern method.pattern method write piece seed piece.len same refl
good_on_content method write piece seed verify.Md5 same fits whole = good_digested method write piece seed fits whole
good_on_content method write piece seed verify.Sha1 same fits whole = good_digested method write piece seed fits whole
good_on_content method write piece seed verify.Sha256 same fits whole = good_digested method write piece seed fits whole

-- what a good verdict by a header says
pub record IsGood (kind : VerifyKind) (header bytes : List ℕ) : Type 0 where
  pub front : take 32 bytes ≡ take 32 header
  pub back : slice_range bytes 32 64 ≡ drop 32 header
  pub area : digest_of kind (drop 64 bytes) ≡ digest_in kind header

tests : (a b c : Bool) → (if a then (if b then (if c then Good else Bad DataArea) else Bad Digest) else Bad Header) ≡ Good
    → (a ≡ true) × (b ≡ true) × (c ≡ true)
tests true true true good = (refl, refl, refl)
tests true true false good = absurd (cc)
tests true false c good = absurd (cc)
tests false b c good = absurd (cc)

IsGood-from_verdict : (kind : VerifyKind) (header bytes : List ℕ) → header_verdict kind header bytes ≡ Good → IsGood kind header bytes
IsGood-from_verdict kind header bytes good =
    let all = tests (same_bytes (take 32 bytes) (take 32 header)) (same_bytes (slice_range bytes 32 64) (drop 32 header))
    (same_bytes (digest_of kind (drop 64 bytes)) (digest_in kind header)) good in
    record {
      front = (bytes_eq-Decides (take 32 bytes) (take 32 header)).0 all.0;
      back = (bytes_eq-Decides (slice_range bytes 32 64) (drop 32 header)).0 all.1;
      area = (bytes_eq-Decides (digest_of kind (drop 64 bytes)) (digest_in kind header)).0 all.2;
    }

-- a block with this header, whose data area has the digest of this area, is that block
block_from_good : (kind : VerifyKind) (front area bytes : List ℕ) → length front ≡ 32
    → IsGood kind (front ++ header_back kind area) bytes → (digest_of kind (drop 64 bytes) ≡ digest_of kind area → drop 64 bytes ≡ area)
    → bytes ≡ (front ++ header_back kind area) ++ area
block_from_good kind front area bytes front_len good apart =
    let back : List ℕ = header_back kind area in
    let header_rest : drop 32 (front ++ back) ≡ back = drop_at front back 32 front_len in
    let digests : digest_of kind (drop 64 bytes) ≡ digest_of kind area =
    good.area ∙ ap (take (digest_length kind)) header_rest ∙ digest-header_back kind area in
    let first : take 32 bytes ≡ front = good.front ∙ take_at front back 32 front_len in
    let second : take 32 (drop 32 bytes) ≡ back = good.back ∙ header_rest in
    let third : drop 32 (drop 32 bytes) ≡ area = drop-drop 32 32 bytes ∙ apart digests in
    sym (take-append-drop 32 bytes)
    ∙ ap (λ (xs : List ℕ). take 32 bytes ++ xs) (sym (take-append-drop 32 (drop 32 bytes)))
    ∙ rw (first, second, third, append_assoc front back area) refl

headed_other : (version : ℕ) (method : Method) (write : WriteId) (piece : Piece) (seed : ℕ) (bytes : List ℕ)
    → (digest_of method.kind (drop 64 bytes) ≡ digest_of method.kind (data_area method piece seed) → drop 64 bytes ≡ data_area method piece seed)
    → header_verdict method.kind (header_of version method write piece seed) bytes ≡ Good → bytes ≡ headed_block version method write piece seed
headed_other version method write piece seed bytes apart good =
    block_from_good method.kind (header_front version method.kind write piece) (data_area method piece seed) bytes (length-header_front version method.kind write piece)
    (IsGood-from_verdict method.kind (header_of version method write piece seed) bytes good) apart

byte_good : (place : Option ℕ) → byte_verdict place ≡ Good → place ≡ None
byte_good None good = refl
byte_good (Some i) good = absurd (cc)

pattern_other : (pattern : Option (List ℕ)) (method : Method) (write : WriteId) (piece : Piece) (seed n : ℕ) (bytes : List ℕ) → is_some pattern ≡ true → length bytes ≡ n
    → verdict_of method write piece (expected_pattern pattern) bytes ≡ Good → bytes ≡ filler_of pattern seed n
pattern_other None method write piece seed n bytes checked size good = absurd (cc)
pattern_other (Some p) method write piece seed n bytes checked size good =
    same_from-first_difference bytes (pattern_bytes p (length bytes)) (sym (length-pattern_bytes p (length bytes)))
    (byte_good (first_difference bytes (pattern_bytes p (length bytes))) good)
    ∙ ap (pattern_bytes p) size

-- digests of this kind tell bytes apart
abbrev has_digest : VerifyKind → Bool
has_digest verify.Plain = false
has_digest verify.Pattern = false
has_digest verify.Md5 = true
has_digest verify.Sha1 = true
has_digest verify.Sha256 = true

told : (kind : VerifyKind) (a b : List ℕ) → has_digest kind ≡ true → TellsApart kind a b → digest_of kind a ≡ digest_of kind b → a ≡ b
told verify.Plain a b some apart same = absurd (cc)
told verify.Pattern a b some apart same = absurd (cc)
told verify.Md5 a b some apart same = apart same
told verify.Sha1 a b some apart same = apart same
told verify.Sha256 a b some apart same = apart same

-- chunks that are all good are those of the write
chunks_other : (method : Method) (write : WriteId) (piece : Piece) (seed : ℕ) (bytes : List ℕ) → has_digest method.kind ≡ true → IsInChunks method.interval piece → length bytes ≡ piece.len
    → ((i : ℕ) → i < chunks_in method.interval piece
    → TellsApart method.kind (drop 64 (bytes_of_chunk method.interval i bytes)) (data_area method (chunk_at method.interval piece i) (chunk_seed seed i)))
    → chunks_verdict method write piece seed bytes ≡ Good
    → bytes ≡ flat_map (chunk_bytes method write piece seed) (range_with_len 0 (chunks_in method.interval piece))
chunks_other method write piece seed bytes some chunks size apart good =
    flat_by_parts (chunk_bytes method write piece seed) method.interval 0 (chunks_in method.interval piece) bytes (size ∙ sym chunks.whole)
    (λ (i : ℕ) (below : i < chunks_in method.interval piece).
    let at : chunk_verdict method write piece seed bytes i ≡ Good =
    ap (chunk_verdict method write piece seed bytes) (sym (zero-add i))
    ∙ good_each (chunk_verdict method write piece seed bytes) 0 (chunks_in method.interval piece) i (chunk_speaks method write piece seed bytes) good below in
    headed_other chunk_version method write (chunk_at method.interval piece i) (chunk_seed seed i) (bytes_of_chunk method.interval i bytes)
    (told method.kind (drop 64 (bytes_of_chunk method.interval i bytes)) (data_area method (chunk_at method.interval piece i) (chunk_seed seed i)) some (apart i below))
    (good_in_chunk i (header_verdict method.kind (chunk_header method write piece seed i) (bytes_of_chunk method.interval i bytes)) at)
    ∙ ap (chunk_bytes method write piece seed) (sym (zero-add i)))

digested_other : (method : Method) (write : WriteId) (piece : Piece) (seed : ℕ) (bytes : List ℕ) → has_digest method.kind ≡ true → piece_fits piece ≡ true → has_whole_chunks method.interval piece.len ≡ true
    → length bytes ≡ piece.len → AreasToldApart method piece seed bytes
    → verdict_of method write piece (expected_headers method write piece seed) bytes ≡ Good → bytes ≡ digested_block method write piece seed
digested_other method write piece seed bytes some fits whole size apart good = by (method.interval == 0) refl apart good
  where
    header : List ℕ
    header = header_of block_version method write piece seed

    block : List ℕ
    block = headed_block block_version method write piece seed

    chunks : List ℕ
    chunks = flat_map (chunk_bytes method write piece seed) (range_with_len 0 (chunks_in method.interval piece))

    by : (b : Bool) → (method.interval == 0) ≡ b
        → MatchBool b (TellsApart method.kind (drop 64 bytes) (data_area method piece seed))
        ((i : ℕ) → i < chunks_in method.interval piece
        → TellsApart method.kind (drop 64 (bytes_of_chunk method.interval i bytes)) (data_area method (chunk_at method.interval piece i) (chunk_seed seed i)))
        → verdict_of method write piece (cond b (expected.Header header) (expected.Seed seed)) bytes ≡ Good → bytes ≡ cond b block chunks
    by true one told_apart is_good =
        headed_other block_version method write piece seed bytes
        (told method.kind (drop 64 bytes) (data_area method piece seed) some told_apart) is_good
    by false many told_apart is_good =
        chunks_other method write piece seed bytes some (in_chunks method.interval piece fits whole many) size told_apart is_good

-- no other bytes of the piece's length are good, where the digest tells their data areas apart
pub good_on_no_other : (method : Method) (write : WriteId) (piece : Piece) (seed : ℕ) (bytes : List ℕ) (kind : VerifyKind) → kind ≡ method.kind
    → is_checked kind method.pattern ≡ true → piece_fits piece ≡ true → interval_fits kind method.interval piece.len ≡ true
    → length bytes ≡ piece.len → AreasToldApart method piece seed bytes
    → verdict_of method write piece (expected_of kind method write piece seed) bytes ≡ Good → bytes ≡ content_of kind method write piece seed
good_on_no_other method write piece seed bytes verify.Plain same checked fits whole size apart good = absurd (cc)
good_on_no_other method write piece seed bytes verify.Pattern same checked fits whole size apart good =
    pattern_other method.pattern method write piece seed piece.len bytes checked size good
good_on_no_other method write piece seed bytes verify.Md5 same checked fits whole size apart good =
    digested_other method write piece seed bytes (ap has_digest (sym same)) fits whole size apart good
good_on_no_other method write piece seed bytes verify.Sha1 same checked fits whole size apart good =
    digested_other method write piece seed bytes (ap has_digest (sym same)) fits whole size apart good
good_on_no_other method write piece seed bytes verify.Sha256 same checked fits whole size apart good =
    digested_other method write piece seed bytes (ap has_digest (sym same)) fits whole size apart good
