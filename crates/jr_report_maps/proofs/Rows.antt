-- The bytes of bad verdicts, and which of two fates is worse, by computing.
use Rattle.std.proofs.Common.{◌≡◌, refl}
use Rattle.jr_model.specs.declared.blocks.Piece.{Piece}
use Rattle.jr_model.specs.declared.events.Part.TheVariants as part
use Rattle.jr_model.specs.declared.events.What.TheVariants.{Digest, Chunk}
use Rattle.jr_report_maps.specs.declared.fates.Fate.TheVariants.{Good, Unchecked, Void, Fault, Bad}
use Rattle.jr_report_maps.specs.BadBlocks.{wrong_bytes}
use Rattle.jr_report_maps.specs.Maps.{worse}

-- a block of 4096 bytes at 8192
block : Piece
block = record { file = 1; offset = 8192; len = 4096 }

-- with a header each 512 bytes, chunk 3 begins 1536 bytes behind the block's begin
chunk_row : wrong_bytes 512 block (Chunk 3 part.DataArea) ≡ record { file = 1; offset = 9728; len = 512 }
unfolding block
chunk_row = refl

-- the last chunk ends where the block does; behind it there is none
last_chunk_row : wrong_bytes 512 block (Chunk 7 part.Header) ≡ record { file = 1; offset = 11776; len = 512 }
unfolding block
last_chunk_row = refl

no_chunk_row : wrong_bytes 512 block (Chunk 8 part.Header) ≡ block
unfolding block
no_chunk_row = refl

-- a finding that names no chunk, and a job without an interval: all of the block
digest_row : wrong_bytes 512 block Digest ≡ block
digest_row = refl

no_interval_row : wrong_bytes 0 block (Chunk 0 part.Digest) ≡ block
unfolding block
no_interval_row = refl

-- where a check raced, more is known amiss than of a write that wasn't checked, and less than of a fault; what came first is no matter
unchecked_row : worse Unchecked Void ≡ Void
unchecked_row = refl

good_row : worse Void Good ≡ Void
good_row = refl

fault_row : worse Void Fault ≡ Fault
fault_row = refl

bad_row : worse Bad Void ≡ Bad
bad_row = refl
