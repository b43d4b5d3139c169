-- Believed: the verdict on the bytes of a check (fio's manual, "verify"; the order of the tests is of this project). The
-- header that is compared is the one that was written, never the one that was read.
use Rattle.std.specs.Prelude.{◌≡◌, ◌<◌, ℕ, suc, ◌*◌, ◌==◌, nat_eq, Bool, true, false, is_some, List, [], ◌∷◌, length, map, take, drop, slice_range, Option, Some, None, if◌then◌else◌, nat_lt, ◌&&◌, ◌++◌, ◌-◌, ◌+◌, ◌%◌, replicate}
use Rattle.std.specs.Bool.{MatchBool}
use Rattle.std.specs.List.{range_with_len}
use Rattle.std.specs.Option.{option_map}
use Rattle.std.specs.Cmp.Lexicographic.{pointwise}
use Rattle.md5.specs.Md5.{md5}
use Rattle.sha1.specs.Sha1.{sha1}
use Rattle.sha2.specs.Sha256.{sha256}
use Rattle.jr_model.specs.declared.contents.VerifyKind.{VerifyKind}
use Rattle.jr_model.specs.declared.contents.VerifyKind.TheVariants as verify
use Rattle.jr_model.specs.declared.contents.Expected.{Expected}
use Rattle.jr_model.specs.declared.contents.Expected.TheVariants as expected
use Rattle.jr_model.specs.declared.contents.Method.{Method}
use Rattle.jr_model.specs.declared.blocks.Piece.{Piece}
use Rattle.jr_model.specs.declared.events.Part.TheVariants as part
use Rattle.jr_model.specs.declared.events.What.TheVariants.{Header, Digest, DataArea, Byte, Chunk}
use Rattle.jr_model.specs.declared.events.WriteId.{WriteId}
use Rattle.jr_model.specs.declared.events.Verdict.{Verdict}
use Rattle.jr_model.specs.declared.events.Verdict.TheVariants.{Good, Bad, Void}
use Rattle.std.specs.Int.{w32, w64, to_le_bytes, from_le_bytes}
use Rattle.jr_model.specs.declared.limits.TheConstants.{SECTOR}
use Rattle.jr_model.specs.Content.{magic, kind_code, block_version, chunk_version, digest_of, digest_length, pattern_bytes, data_area, chunk_at, chunk_seed, chunks_in, chunk_header}

-- the same bytes
abbrev pub same_bytes : List ℕ → List ℕ → Bool
same_bytes a b = pointwise nat_eq a b

-- the digest in a header: the first bytes of its second half
abbrev pub digest_in : VerifyKind → List ℕ → List ℕ
digest_in kind header = take (digest_length kind) (drop 32 header)

-- the verdict by the header that was written, for a kind with a digest
abbrev pub header_verdict : VerifyKind → List ℕ → List ℕ → Verdict
header_verdict kind header bytes =
    if same_bytes (take 32 bytes) (take 32 header)
    then (if same_bytes (slice_range bytes 32 64) (drop 32 header)
    then (if same_bytes (digest_of kind (drop 64 bytes)) (digest_in kind header) then Good else Bad DataArea)
    else Bad Digest)
    else Bad Header

-- the first place at which two lists of bytes differ, if there is one
abbrev pub first_difference : List ℕ → List ℕ → Option ℕ
first_difference [] ys = None
first_difference (x ∷ xs) [] = None
first_difference (x ∷ xs) (y ∷ ys) = if x == y then option_map suc (first_difference xs ys) else Some 0

abbrev pub byte_verdict : Option ℕ → Verdict
byte_verdict None = Good
byte_verdict (Some i) = Bad (Byte i)

-- a verdict by a header, said of chunk i
abbrev pub in_chunk : ℕ → Verdict → Verdict
in_chunk i Good = Good
in_chunk i (Bad Header) = Bad (Chunk i part.Header)
in_chunk i (Bad Digest) = Bad (Chunk i part.Digest)
in_chunk i (Bad DataArea) = Bad (Chunk i part.DataArea)
in_chunk i (Bad (Byte n)) = Bad (Byte n)
in_chunk i (Bad (Chunk n found)) = Bad (Chunk n found)
in_chunk i Void = Void

-- the first bad verdict, if there is one
abbrev pub first_bad : List Verdict → Verdict
first_bad [] = Good
first_bad (Good ∷ verdicts) = first_bad verdicts
first_bad (Bad what ∷ verdicts) = Bad what
first_bad (Void ∷ verdicts) = first_bad verdicts

-- the bytes of chunk i
abbrev pub bytes_of_chunk : ℕ → ℕ → List ℕ → List ℕ
bytes_of_chunk interval i bytes = take interval (drop (i * interval) bytes)

-- the verdict on chunk i of a block
abbrev pub chunk_verdict : Method → WriteId → Piece → ℕ → List ℕ → ℕ → Verdict
chunk_verdict method write piece seed bytes i =
    in_chunk i (header_verdict method.kind (chunk_header method write piece seed i) (bytes_of_chunk method.interval i bytes))

-- the verdict on a block of chunks: that on the first chunk that isn't good
abbrev pub chunks_verdict : Method → WriteId → Piece → ℕ → List ℕ → Verdict
chunks_verdict method write piece seed bytes =
    first_bad (map (chunk_verdict method write piece seed bytes) (range_with_len 0 (chunks_in method.interval piece)))

-- the verdict on bytes by what they say of themselves

-- the header that the bytes of a piece should begin with: magic, kind, lengths and offset are known, and nothing follows the
-- digest; pass, clone, draw number and the digest are what was read
abbrev pub own_header : ℕ → VerifyKind → Piece → List ℕ → List ℕ
own_header version kind piece bytes =
    magic version ++ (kind_code kind ∷ digest_length kind ∷ [])
    ++ slice_range bytes 6 8 ++ to_le_bytes w32 piece.len ++ slice_range bytes 12 16
    ++ to_le_bytes w64 piece.offset ++ slice_range bytes 24 (32 + digest_length kind) ++ replicate (32 - digest_length kind) 0

-- the verdict on a piece by its own header
abbrev pub own_header_verdict : ℕ → VerifyKind → Piece → List ℕ → Verdict
own_header_verdict version kind piece bytes = header_verdict kind (own_header version kind piece bytes) bytes

-- on chunk i, where the bytes are cut at this interval
abbrev pub own_chunk_verdict : VerifyKind → ℕ → Piece → List ℕ → ℕ → Verdict
own_chunk_verdict kind interval piece bytes i =
    in_chunk i (own_header_verdict chunk_version kind (chunk_at interval piece i) (bytes_of_chunk interval i bytes))

-- the interval that the bytes say they are cut at
abbrev pub own_interval : List ℕ → ℕ
own_interval bytes = from_le_bytes w32 (slice_range bytes 8 12)

-- whole 512-byte blocks, of which a whole number makes up the piece
abbrev pub cuts_whole : ℕ → ℕ → Bool
cuts_whole interval len = nat_lt 0 interval && (interval % SECTOR == 0) && (len % interval == 0)

-- on all chunks: that on the first that isn't good
abbrev pub own_chunks_verdict : VerifyKind → ℕ → Piece → List ℕ → Verdict
own_chunks_verdict kind interval piece bytes =
    if cuts_whole interval piece.len
    then first_bad (map (own_chunk_verdict kind interval piece bytes) (range_with_len 0 (chunks_in interval piece)))
    else Bad (Chunk 0 part.Header)

-- on bytes with a digest: they are chunks where they begin as one does, else one block
abbrev pub own_digest_verdict : VerifyKind → Piece → List ℕ → Verdict
own_digest_verdict kind piece bytes =
    if same_bytes (take 4 bytes) (magic chunk_version)
    then own_chunks_verdict kind (own_interval bytes) piece bytes
    else own_header_verdict block_version kind piece bytes

-- the first byte that differs from the pattern, where there is one
abbrev pub pattern_verdict : Option (List ℕ) → List ℕ → Verdict
pattern_verdict None bytes = Good
pattern_verdict (Some pattern) bytes = byte_verdict (first_difference bytes (pattern_bytes pattern (length bytes)))

abbrev pub own_verdict_of : VerifyKind → Option (List ℕ) → Piece → List ℕ → Verdict
own_verdict_of verify.Plain pattern piece bytes = Good
own_verdict_of verify.Pattern pattern piece bytes = pattern_verdict pattern bytes
own_verdict_of verify.Md5 pattern piece bytes = own_digest_verdict verify.Md5 piece bytes
own_verdict_of verify.Sha1 pattern piece bytes = own_digest_verdict verify.Sha1 piece bytes
own_verdict_of verify.Sha256 pattern piece bytes = own_digest_verdict verify.Sha256 piece bytes

-- the verdict on the bytes of a check of this write, by what is expected of it; where nothing is, by what the bytes say of themselves
abbrev pub verdict_of : Method → WriteId → Piece → Expected → List ℕ → Verdict
verdict_of method write piece expected.Nothing bytes = own_verdict_of method.kind method.pattern piece bytes
verdict_of method write piece (expected.Pattern pattern) bytes =
    byte_verdict (first_difference bytes (pattern_bytes pattern (length bytes)))
verdict_of method write piece (expected.Header header) bytes = header_verdict method.kind header bytes
verdict_of method write piece (expected.Seed seed) bytes = chunks_verdict method write piece seed bytes

-- the method's digest tells these two lists of bytes apart, where it has one
abbrev pub TellsApart : VerifyKind → List ℕ → List ℕ → Type 0
TellsApart verify.Md5 a b = md5 a ≡ md5 b → a ≡ b
TellsApart verify.Sha1 a b = sha1 a ≡ sha1 b → a ≡ b
TellsApart verify.Sha256 a b = sha256 a ≡ sha256 b → a ≡ b
TellsApart verify.Plain a b = Unit {0}
TellsApart verify.Pattern a b = Unit {0}

-- the method's digest tells the data areas of these bytes from those of the write: the one of the block, or that of each chunk
abbrev pub AreasToldApart : Method → Piece → ℕ → List ℕ → Type 0
AreasToldApart method piece seed bytes =
    MatchBool (method.interval == 0)
    (TellsApart method.kind (drop 64 bytes) (data_area method piece seed))
    ((i : ℕ) → i < chunks_in method.interval piece
    → TellsApart method.kind (drop 64 (bytes_of_chunk method.interval i bytes))
    (data_area method (chunk_at method.interval piece i) (chunk_seed seed i)))

-- writes of this kind and pattern are checked
abbrev pub is_checked : VerifyKind → Option (List ℕ) → Bool
is_checked verify.Plain pattern = false
is_checked verify.Pattern pattern = is_some pattern
is_checked verify.Md5 pattern = true
is_checked verify.Sha1 pattern = true
is_checked verify.Sha256 pattern = true
