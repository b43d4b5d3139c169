-- Small blocks and verdicts, worked by hand.
use Rattle.std.proofs.Common.{◌≡◌, ℕ, List, [], ◌∷◌, ◌++◌, replicate, true, false, refl}
use Rattle.jr_model.specs.declared.blocks.Piece.{Piece}
use Rattle.jr_model.specs.declared.events.WriteId.{WriteId}
use Rattle.jr_model.specs.declared.events.Part.TheVariants as part
use Rattle.jr_model.specs.declared.events.What.TheVariants.{Header, Digest, Byte, Chunk}
use Rattle.jr_model.specs.declared.events.Verdict.TheVariants.{Good, Bad}
use Rattle.jr_model.specs.declared.contents.VerifyKind.TheVariants as verify
use Rattle.jr_model.specs.declared.contents.Expected.TheVariants as expected
use Rattle.jr_model.specs.declared.contents.Method.{Method}
use Rattle.std.specs.Prelude.{Some, None}
use Rattle.jr_model.specs.Content.{header_front, block_version, pattern_bytes}
use Rattle.jr_model.specs.Judgement.{cuts_whole, own_digest_verdict, own_header, own_header_verdict, own_interval, own_verdict_of, verdict_of}

-- draw 2 of clone 0 in pass 1, 4096 bytes at 8192
a_piece : Piece
a_piece = record { file = 0; offset = 8192; len = 4096 }

a_write : WriteId
a_write = record { clone = 0; pass = 1; number = 2 }

by_pattern : Method
by_pattern = record { kind = verify.Pattern; pattern = None; interval = 0 }

front_of_a_write : header_front block_version verify.Md5 a_write a_piece
    ≡ 0x4a ∷ 0x52 ∷ 0x56 ∷ 0x31 ∷ 1 ∷ 16 ∷ 1 ∷ 0 ∷ 0 ∷ 0x10 ∷ 0 ∷ 0 ∷ 0 ∷ 0 ∷ 0 ∷ 0
    ∷ 0 ∷ 0x20 ∷ 0 ∷ 0 ∷ 0 ∷ 0 ∷ 0 ∷ 0 ∷ 2 ∷ 0 ∷ 0 ∷ 0 ∷ 0 ∷ 0 ∷ 0 ∷ 0 ∷ []
unfolding header_front a_piece a_write
front_of_a_write = refl

begin_of_a_pattern : pattern_bytes (0x0a ∷ 0xbc ∷ []) 5 ≡ 0x0a ∷ 0xbc ∷ 0x0a ∷ 0xbc ∷ 0x0a ∷ []
begin_of_a_pattern = refl

good_pattern_block : verdict_of by_pattern a_write a_piece (expected.Pattern (7 ∷ 8 ∷ [])) (7 ∷ 8 ∷ 7 ∷ []) ≡ Good
good_pattern_block = refl

first_byte_off : verdict_of by_pattern a_write a_piece (expected.Pattern (7 ∷ 8 ∷ [])) (7 ∷ 8 ∷ 8 ∷ 7 ∷ []) ≡ Bad (Byte 2)
first_byte_off = refl

-- by what bytes say of themselves

-- a header of this kind and digest length with a digest of sevens, and these bytes behind it
a_header : ℕ → ℕ → List ℕ → List ℕ
a_header code size behind =
    (0x4a ∷ 0x52 ∷ 0x56 ∷ 0x31 ∷ code ∷ size ∷ 1 ∷ 0 ∷ 0 ∷ 0x10 ∷ 0 ∷ 0 ∷ 0 ∷ 0 ∷ 0 ∷ 0
    ∷ 0 ∷ 0x20 ∷ 0 ∷ 0 ∷ 0 ∷ 0 ∷ 0 ∷ 0 ∷ 2 ∷ 0 ∷ 0 ∷ 0 ∷ 0 ∷ 0 ∷ 0 ∷ 0 ∷ []) ++ replicate size 7 ++ behind

a_right_header : own_header block_version verify.Md5 a_piece (a_header 1 16 (replicate 16 0)) ≡ a_header 1 16 (replicate 16 0)
unfolding a_header a_piece
a_right_header = refl

a_header_of_another_kind : own_header_verdict block_version verify.Md5 a_piece (a_header 2 20 (replicate 12 0)) ≡ Bad Header
unfolding a_header a_piece
a_header_of_another_kind = refl

bytes_behind_the_digest : own_header_verdict block_version verify.Md5 a_piece (a_header 1 16 (replicate 16 1)) ≡ Bad Digest
unfolding a_header a_piece
bytes_behind_the_digest = refl

interval_of_a_header : own_interval (a_header 1 16 []) ≡ 4096
unfolding a_header
interval_of_a_header = refl

eight_chunks : cuts_whole 512 4096 ≡ true
eight_chunks = refl

not_whole_chunks : cuts_whole 1536 4096 ≡ false
not_whole_chunks = refl

no_interval : cuts_whole 0 4096 ≡ false
no_interval = refl

-- the first chunk says that it has 1536 bytes, and the block has 4096
chunk_of_another_length : own_digest_verdict verify.Md5 a_piece (0x4a ∷ 0x52 ∷ 0x56 ∷ 0x32 ∷ 1 ∷ 16 ∷ 1 ∷ 0 ∷ 0 ∷ 6 ∷ 0 ∷ 0 ∷ []) ≡ Bad (Chunk 0 part.Header)
unfolding a_piece
chunk_of_another_length = refl

read_off_the_pattern : own_verdict_of verify.Pattern (Some (7 ∷ 8 ∷ [])) a_piece (7 ∷ 8 ∷ 8 ∷ 7 ∷ []) ≡ Bad (Byte 2)
read_off_the_pattern = refl
