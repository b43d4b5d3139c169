-- Believed: what a write puts into its blocks (fio's manual, "verify"; MD5 of RFC 1321, SHA-1 and SHA-256 of FIPS 180-4; the
-- header's layout is of this project). Numbers in a header are little-endian.
use Rattle.std.specs.Prelude.{ℕ, ◌+◌, ◌-◌, ◌*◌, ◌/◌, ◌%◌, ◌^◌, ◌==◌, List, [], ◌∷◌, ◌++◌, length, map, flat_map, replicate, slice_index, Option, Some, None, if◌then◌else◌}
use Rattle.std.specs.List.{range_with_len}
use Rattle.std.specs.Int.{w16, w32, w64, to_le_bytes}
use Rattle.md5.specs.Md5.{md5}
use Rattle.sha1.specs.Sha1.{sha1}
use Rattle.sha2.specs.Sha256.{sha256}
use Rattle.jr_model.specs.declared.blocks.Piece.{Piece}
use Rattle.jr_model.specs.declared.contents.VerifyKind.{VerifyKind}
use Rattle.jr_model.specs.declared.contents.VerifyKind.TheVariants as verify
use Rattle.jr_model.specs.declared.contents.Expected.{Expected}
use Rattle.jr_model.specs.declared.contents.Expected.TheVariants as expected
use Rattle.jr_model.specs.declared.contents.Method.{Method}
use Rattle.jr_model.specs.declared.events.WriteId.{WriteId}
use Rattle.jr_model.specs.Words.{seeded, words_from, word_bytes}

-- n bytes of a pattern, repeated from its first byte
abbrev pub pattern_bytes : List ℕ → ℕ → List ℕ
pattern_bytes pattern n = map (λ i. slice_index pattern (i % length pattern)) (range_with_len 0 n)

-- n bytes of a generator seeded by this number
abbrev pub generated_bytes : ℕ → ℕ → List ℕ
generated_bytes seed n = word_bytes (words_from (seeded seed) (n / 8))

-- n bytes of filler: the pattern where there is one, else generated
abbrev pub filler_of : Option (List ℕ) → ℕ → ℕ → List ℕ
filler_of (Some pattern) seed n = pattern_bytes pattern n
filler_of None seed n = generated_bytes seed n

-- the digest of a list of bytes by the method's kind; kinds without a digest have an empty one
abbrev pub digest_of : VerifyKind → List ℕ → List ℕ
digest_of verify.Md5 bytes = md5 bytes
digest_of verify.Sha1 bytes = sha1 bytes
digest_of verify.Sha256 bytes = sha256 bytes
digest_of verify.Plain bytes = []
digest_of verify.Pattern bytes = []

-- the kind's number in a header, and the length of its digest in bytes
abbrev pub kind_code : VerifyKind → ℕ
kind_code verify.Md5 = 1
kind_code verify.Sha1 = 2
kind_code verify.Sha256 = 3
kind_code verify.Plain = 0
kind_code verify.Pattern = 0

abbrev pub digest_length : VerifyKind → ℕ
digest_length verify.Md5 = 16
digest_length verify.Sha1 = 20
digest_length verify.Sha256 = 32
digest_length verify.Plain = 0
digest_length verify.Pattern = 0

-- what a header begins with: `JRV1` where it is for a whole block, `JRV2` where it is for a chunk
abbrev pub block_version : ℕ
block_version = 0x31

abbrev pub chunk_version : ℕ
chunk_version = 0x32

abbrev pub magic : ℕ → List ℕ
magic version = 0x4a ∷ 0x52 ∷ 0x56 ∷ version ∷ []

-- the first half of a header, 32 bytes: who wrote what, and where
unfoldable pub header_front : ℕ → VerifyKind → WriteId → Piece → List ℕ
header_front version kind write piece =
    magic version ++ (kind_code kind ∷ digest_length kind ∷ [])
    ++ to_le_bytes w16 write.pass ++ to_le_bytes w32 piece.len ++ to_le_bytes w32 write.clone
    ++ to_le_bytes w64 piece.offset ++ to_le_bytes w64 write.number

-- the second half, 32 bytes: the digest, and zeros
abbrev pub header_back : VerifyKind → List ℕ → List ℕ
header_back kind area = digest_of kind area ++ replicate (32 - digest_length kind) 0

-- the header of a piece whose data area is this
abbrev pub header_over : ℕ → VerifyKind → WriteId → Piece → List ℕ → List ℕ
header_over version kind write piece area = header_front version kind write piece ++ header_back kind area

-- the data area of a piece with a header
abbrev pub data_area : Method → Piece → ℕ → List ℕ
data_area method piece seed = filler_of method.pattern seed (piece.len - 64)

-- the 64 bytes of the header of a piece of a write with a digest
abbrev pub header_of : ℕ → Method → WriteId → Piece → ℕ → List ℕ
header_of version method write piece seed = header_over version method.kind write piece (data_area method piece seed)

-- a piece with a header before its data area
abbrev pub headed_block : ℕ → Method → WriteId → Piece → ℕ → List ℕ
headed_block version method write piece seed = header_of version method write piece seed ++ data_area method piece seed

-- chunk i of a block: as many bytes as the interval between headers, with a seed of its own
abbrev pub chunk_at : ℕ → Piece → ℕ → Piece
chunk_at interval piece i = record { file = piece.file; offset = piece.offset + i * interval; len = interval }

abbrev pub chunk_seed : ℕ → ℕ → ℕ
chunk_seed seed i = (seed + i) % 2 ^ 64

-- how many chunks a block has
abbrev pub chunks_in : ℕ → Piece → ℕ
chunks_in interval piece = piece.len / interval

-- the header of chunk i of a write, and all of its bytes
abbrev pub chunk_header : Method → WriteId → Piece → ℕ → ℕ → List ℕ
chunk_header method write piece seed i = header_of chunk_version method write (chunk_at method.interval piece i) (chunk_seed seed i)

abbrev pub chunk_bytes : Method → WriteId → Piece → ℕ → ℕ → List ℕ
chunk_bytes method write piece seed i = headed_block chunk_version method write (chunk_at method.interval piece i) (chunk_seed seed i)

-- a block with a digest: one header and its data area, or the chunks one behind the other
abbrev pub digested_block : Method → WriteId → Piece → ℕ → List ℕ
digested_block method write piece seed =
    if method.interval == 0
    then headed_block block_version method write piece seed
    else flat_map (chunk_bytes method write piece seed) (range_with_len 0 (chunks_in method.interval piece))

-- all bytes of a write
abbrev pub content_of : VerifyKind → Method → WriteId → Piece → ℕ → List ℕ
content_of verify.Plain method write piece seed = filler_of method.pattern seed piece.len
content_of verify.Pattern method write piece seed = filler_of method.pattern seed piece.len
content_of verify.Md5 method write piece seed = digested_block method write piece seed
content_of verify.Sha1 method write piece seed = digested_block method write piece seed
content_of verify.Sha256 method write piece seed = digested_block method write piece seed

-- the pattern that is expected back, where there is one
abbrev pub expected_pattern : Option (List ℕ) → Expected
expected_pattern (Some pattern) = expected.Pattern pattern
expected_pattern None = expected.Nothing

-- the header that is expected back, or the seed of which the headers of the chunks are made anew
abbrev pub expected_headers : Method → WriteId → Piece → ℕ → Expected
expected_headers method write piece seed =
    if method.interval == 0 then expected.Header (header_of block_version method write piece seed) else expected.Seed seed

-- what a check of the write is judged by
abbrev pub expected_of : VerifyKind → Method → WriteId → Piece → ℕ → Expected
expected_of verify.Plain method write piece seed = expected.Nothing
expected_of verify.Pattern method write piece seed = expected_pattern method.pattern
expected_of verify.Md5 method write piece seed = expected_headers method write piece seed
expected_of verify.Sha1 method write piece seed = expected_headers method write piece seed
expected_of verify.Sha256 method write piece seed = expected_headers method write piece seed
