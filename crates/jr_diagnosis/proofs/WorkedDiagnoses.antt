-- What stands in small blocks, worked by hand.
use Rattle.std.proofs.Common.{◌≡◌, ℕ, List, [], ◌∷◌, ◌++◌, replicate, refl}
use Rattle.std.specs.Prelude.{Some, None, true, false}
use Rattle.jr_model.specs.declared.blocks.Piece.{Piece}
use Rattle.jr_model.specs.declared.contents.Method.{Method}
use Rattle.jr_model.specs.declared.contents.VerifyKind.{VerifyKind}
use Rattle.jr_model.specs.declared.contents.VerifyKind.TheVariants as verify
use Rattle.jr_model.specs.declared.events.WriteId.{WriteId}
use Rattle.jr_diagnosis.specs.declared.diagnoses.Diagnosis.TheVariants.{Zeros, Repeated, Flipped, OtherKind, OtherLength, Elsewhere, OtherWrite, OtherPass, Torn, Damaged, Foreign}
use Rattle.std.specs.Int.Count.{ones}
use Rattle.jr_diagnosis.specs.Diagnoses.{diagnosis_of, here_diagnosis, own_diagnosis_of, sector_diagnosis}
use Rattle.jr_diagnosis.specs.Headers.{header_in}
use Rattle.jr_diagnosis.specs.Sectors.{first_sectors, right_sectors}

-- draw 2 of clone 0 in pass 1, 512 bytes at 8192
a_piece : Piece
a_piece = record { file = 0; offset = 8192; len = 512 }

a_write : WriteId
a_write = record { clone = 0; pass = 1; number = 2 }

-- a method of this kind, whose filler is no pattern
by : VerifyKind → Method
by kind = record { kind = kind; pattern = None; interval = 0 }

-- a block with a header of these numbers, a digest of sevens, and a data area of this byte
block : ℕ → ℕ → ℕ → ℕ → ℕ → List ℕ
block pass high place number area =
    (0x4a ∷ 0x52 ∷ 0x56 ∷ 0x31 ∷ 1 ∷ 16 ∷ pass ∷ 0 ∷ 0 ∷ high ∷ 0 ∷ 0 ∷ 0 ∷ 0 ∷ 0 ∷ 0
    ∷ 0 ∷ place ∷ 0 ∷ 0 ∷ 0 ∷ 0 ∷ 0 ∷ 0 ∷ number ∷ 0 ∷ 0 ∷ 0 ∷ 0 ∷ 0 ∷ 0 ∷ 0 ∷ [])
    ++ replicate 16 7 ++ replicate 16 0 ++ replicate 448 area

-- what was written
the_block : List ℕ
the_block = block 1 2 0x20 2 1

header_of_the_block : header_in the_block
    ≡ Some (record { kind = 1; pass = 1; len = 512; clone = 0; offset = 8192; number = 2 })
unfolding the_block block
header_of_the_block = refl

no_header : header_in (replicate 512 0x4a) ≡ None
no_header = refl

nothing_but_zeros : diagnosis_of (by verify.Md5) a_write a_piece the_block (replicate 512 0) ≡ Zeros
unfolding the_block block a_write a_piece by ones
nothing_but_zeros = refl

-- one byte is another one
zeros_but_for_one : diagnosis_of (by verify.Md5) a_write a_piece the_block (replicate 511 0 ++ 1 ∷ []) ≡ Foreign
unfolding the_block block a_write a_piece by ones
zeros_but_for_one = refl

erased_flash : diagnosis_of (by verify.Md5) a_write a_piece the_block (replicate 512 255) ≡ Repeated 255
unfolding the_block block a_write a_piece by ones
erased_flash = refl

two_bits : diagnosis_of (by verify.Pattern) a_write a_piece (1 ∷ 2 ∷ 3 ∷ []) (1 ∷ 6 ∷ 1 ∷ []) ≡ Flipped (record { raised = 1; cleared = 1; first = 1 })
unfolding ones a_write a_piece by
two_bits = refl

another_kind : diagnosis_of (by verify.Sha1) a_write a_piece (replicate 512 1) the_block ≡ OtherKind 1
unfolding the_block block a_write a_piece by ones
another_kind = refl

another_length : diagnosis_of (by verify.Md5) a_write a_piece the_block (block 1 0x10 0x20 2 2) ≡ OtherLength 4096
unfolding the_block block a_write a_piece by ones
another_length = refl

another_place : diagnosis_of (by verify.Md5) a_write a_piece the_block (block 1 2 0x30 3 2) ≡ Elsewhere 12288
unfolding the_block block a_write a_piece by ones
another_place = refl

another_number : diagnosis_of (by verify.Md5) a_write a_piece the_block (block 0 2 0x20 3 2) ≡ OtherWrite 0 3
unfolding the_block block a_write a_piece by ones
another_number = refl

an_older_pass : diagnosis_of (by verify.Md5) a_write a_piece the_block (block 0 2 0x20 2 2) ≡ OtherPass 0
unfolding the_block block a_write a_piece by ones
an_older_pass = refl

half_of_it : right_sectors (replicate 1024 1) (replicate 512 1 ++ replicate 512 9) ≡ 1
half_of_it = refl

one_is_torn : sector_diagnosis 1 ≡ Torn 1
one_is_torn = refl

which_half : first_sectors (replicate 1024 1) (replicate 512 1 ++ replicate 512 9) ≡ true ∷ false ∷ []
which_half = refl

-- the header of an older write, behind which one sector is the new one's
old_front : here_diagnosis (by verify.Md5) a_write 1 (header_in (block 0 2 0x20 2 2)) ≡ Torn 1
unfolding block a_write by
old_front = refl

-- where a pattern fills all blocks alike, it may as well be an older write
old_pattern : here_diagnosis (record { kind = verify.Md5; pattern = Some (2 ∷ []); interval = 0 }) a_write 1 (header_in (block 0 2 0x20 2 2)) ≡ OtherPass 0
unfolding block a_write
old_pattern = refl

-- a read: the block of another place, one of this place that is damaged, and none
read_elsewhere : own_diagnosis_of verify.Md5 a_piece (block 1 2 0x30 3 2) ≡ Elsewhere 12288
unfolding block a_piece
read_elsewhere = refl

read_damaged : own_diagnosis_of verify.Md5 a_piece the_block ≡ Damaged
unfolding the_block block a_piece
read_damaged = refl

read_foreign : own_diagnosis_of verify.Md5 a_piece (1 ∷ replicate 511 2) ≡ Foreign
unfolding a_piece
read_foreign = refl
