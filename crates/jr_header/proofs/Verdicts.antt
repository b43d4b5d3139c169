-- The verdict by a header, from what each of its tests answers; and that a verdict on bytes says something of them.
use Rattle.std.proofs.Common.{◌≡◌, List, ℕ, length, take, drop, replicate, ◌-◌, true, false, refl, arith, length-drop}
use Rattle.std.proofs.lemmas.List.{take_all, take_at}
use borrow.Rule.Slice.PartMut.{mid_of}
use Rattle.std.specs.Prelude.{slice_range}
use Rattle.jr_model.specs.declared.blocks.Piece.{Piece}
use Rattle.jr_model.specs.declared.contents.Expected.{Expected}
use Rattle.jr_model.specs.declared.contents.Expected.TheVariants as expected
use Rattle.jr_model.specs.declared.contents.Method.{Method}
use Rattle.jr_model.specs.declared.contents.VerifyKind.{VerifyKind}
use Rattle.jr_model.specs.declared.events.What.TheVariants.{Header, Digest, DataArea}
use Rattle.jr_model.specs.declared.events.Verdict.{Verdict}
use Rattle.jr_model.specs.declared.events.Verdict.TheVariants.{Good, Bad, Void}
use Rattle.jr_model.specs.declared.events.WriteId.{WriteId}
use Rattle.jr_model.specs.Content.{chunk_header, chunks_in, digest_length, digest_of, header_back, pattern_bytes}
use Rattle.jr_model.specs.Judgement.{bytes_of_chunk, chunk_verdict, digest_in, first_difference, in_chunk, own_verdict_of, same_bytes, header_verdict, verdict_of}
use Rattle.jr_model.specs.Legal.{is_void, own_says}
use Rattle.jr_model.proofs.MachineLaws.{byte_says, first_of_says, header_says, own_verdict_fits}
use Rattle.jr_header.proofs.Headers.{length-digest_of}

-- the last 32 bytes of 64
pub back_half : (header : List ℕ) → length header ≡ 64 → mid_of 32 32 header ≡ drop 32 header
back_half header size = take_all 32 (drop 32 header) (omega (arith, length-drop 32 header))

pub header_differs : (kind : VerifyKind) (header bytes : List ℕ) → same_bytes (take 32 bytes) (take 32 header) ≡ false → header_verdict kind header bytes ≡ Bad Header
header_differs kind header bytes front = rw (front) refl

pub digest_differs : (kind : VerifyKind) (header bytes : List ℕ)
    → same_bytes (take 32 bytes) (take 32 header) ≡ true → same_bytes (slice_range bytes 32 64) (drop 32 header) ≡ false
    → header_verdict kind header bytes ≡ Bad Digest
digest_differs kind header bytes front digest = rw (front, digest) refl

pub area_differs : (kind : VerifyKind) (header bytes : List ℕ)
    → same_bytes (take 32 bytes) (take 32 header) ≡ true → same_bytes (slice_range bytes 32 64) (drop 32 header) ≡ true
    → same_bytes (digest_of kind (drop 64 bytes)) (digest_in kind header) ≡ false → header_verdict kind header bytes ≡ Bad DataArea
area_differs kind header bytes front digest area = rw (front, digest, area) refl

pub all_same : (kind : VerifyKind) (header bytes : List ℕ)
    → same_bytes (take 32 bytes) (take 32 header) ≡ true → same_bytes (slice_range bytes 32 64) (drop 32 header) ≡ true
    → same_bytes (digest_of kind (drop 64 bytes)) (digest_in kind header) ≡ true → header_verdict kind header bytes ≡ Good
all_same kind header bytes front digest area = rw (front, digest, area) refl

-- bytes are good or bad

pub chunk_speaks : (method : Method) (write : WriteId) (piece : Piece) (seed : ℕ) (bytes : List ℕ) (i : ℕ) → is_void (chunk_verdict method write piece seed bytes i) ≡ false
chunk_speaks method write piece seed bytes i =
    header_says (λ (v : Verdict). is_void (in_chunk i v) ≡ false) method.kind (chunk_header method write piece seed i) (bytes_of_chunk method.interval i bytes) refl refl refl refl

own_says_some : (kind : VerifyKind) (len : ℕ) (v : Verdict) → own_says kind len v ≡ true → is_void v ≡ false
own_says_some kind len Good says = refl
own_says_some kind len (Bad what) says = refl
own_says_some kind len Void says = absurd (cc)

pub verdict_speaks : (method : Method) (write : WriteId) (piece : Piece) (e : Expected) (bytes : List ℕ) → length bytes ≡ piece.len → is_void (verdict_of method write piece e bytes) ≡ false
verdict_speaks method write piece expected.Nothing bytes size =
    own_says_some method.kind piece.len (own_verdict_of method.kind method.pattern piece bytes)
    (own_verdict_fits method.kind method.pattern piece bytes (omega (arith, size)))
verdict_speaks method write piece (expected.Pattern pattern) bytes size =
    byte_says (λ (v : Verdict). is_void v ≡ false) (first_difference bytes (pattern_bytes pattern (length bytes))) refl (λ i found. refl)
verdict_speaks method write piece (expected.Header header) bytes size =
    header_says (λ (v : Verdict). is_void v ≡ false) method.kind header bytes refl refl refl refl
verdict_speaks method write piece (expected.Seed seed) bytes size =
    first_of_says (λ (v : Verdict). is_void v ≡ false) (chunk_verdict method write piece seed bytes) 0 (chunks_in method.interval piece) refl
    (λ i below. chunk_speaks method write piece seed bytes i)

-- the digest in the second half of a header over this data area
pub digest-header_back : (kind : VerifyKind) (area : List ℕ) → take (digest_length kind) (header_back kind area) ≡ digest_of kind area
digest-header_back kind area =
    take_at (digest_of kind area) (replicate (32 - digest_length kind) 0) (digest_length kind) (length-digest_of kind area)
