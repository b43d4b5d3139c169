-- Believed: which blocks of a file came back wrong, where its blocks are counted from 0 and have so many bytes each (the list of
-- `badblocks -o`, which `mke2fs -l` and `e2fsck -l` read: badblocks(8)).
use Rattle.std.specs.Prelude.{◌≡◌, ℕ, ◌*◌, ◌==◌, nat_lt, Bool, List, ◌++◌, Option, Some, None, codes, flat_map, if◌then◌else◌}
use Rattle.std.specs.Fmt.{decimal}
use Rattle.std.specs.List.{list_any}
use Rattle.std.specs.List.Sorted.{IsStrictlyIncreasing}
use Rattle.jr_model.specs.declared.blocks.Piece.{Piece}
use Rattle.jr_model.specs.declared.events.What.{What}
use Rattle.jr_model.specs.declared.events.What.TheVariants.{Header, Digest, DataArea, Byte, Chunk}
use Rattle.jr_model.specs.declared.events.WriteId.{WriteId}
use Rattle.jr_model.specs.Content.{chunk_at, chunks_in}
use Rattle.jr_model.specs.Pieces.{pieces_overlap}
use Rattle.jr_model.specs.Plan.{Plan, SubJob, checks_reads, clone_of}
use Rattle.jr_model.specs.Report.{Miscompare}

-- the bytes of a block
abbrev pub block_piece : ℕ → ℕ → ℕ → Piece
block_piece file size block = record { file = file; offset = block * size; len = size }

-- the bytes from one header of a clone's blocks to the next; 0 where a block has one header or none, and where the clone checks its
-- reads: what it read may have been written with another interval, which no history says
abbrev pub interval_of : Option SubJob → ℕ
interval_of None = 0
interval_of (Some job) = if checks_reads job then 0 else job.method.interval

-- the bytes of a piece that came back wrong: of the chunk that the finding names, else all of them
abbrev pub wrong_bytes : ℕ → Piece → What → Piece
wrong_bytes interval piece Header = piece
wrong_bytes interval piece Digest = piece
wrong_bytes interval piece DataArea = piece
wrong_bytes interval piece (Byte n) = piece
wrong_bytes interval piece (Chunk i found) = if nat_lt i (chunks_in interval piece) then chunk_at interval piece i else piece

-- the bytes that a bad verdict on this write, or on this checked read, is over
abbrev pub bad_bytes : Plan → WriteId → Piece → What → Piece
bad_bytes plan write piece what = wrong_bytes (interval_of (clone_of plan write.clone)) piece what

-- a bad verdict is over a byte of the block
abbrev pub is_bad_at : Plan → ℕ → ℕ → ℕ → Miscompare → Bool
is_bad_at plan file size block m = pieces_overlap (bad_bytes plan m.write m.piece m.what) (block_piece file size block)

abbrev pub is_bad_block : Plan → List Miscompare → ℕ → ℕ → ℕ → Bool
is_bad_block plan found file size block = list_any (is_bad_at plan file size block) found

abbrev pub is_listed : List ℕ → ℕ → Bool
is_listed blocks block = list_any (λ n. n == block) blocks

-- a number is there exactly where a bad verdict is over a byte of that block; they ascend, so each is there once
pub record AreBadBlocks (plan : Plan) (found : List Miscompare) (file size : ℕ) (blocks : List ℕ) : Type 0 where
  pub listed : (block : ℕ) → is_listed blocks block ≡ is_bad_block plan found file size block
  pub ascending : IsStrictlyIncreasing blocks

-- a number a line
abbrev pub block_line : ℕ → List ℕ
block_line block = decimal block ++ codes "\n"

abbrev pub blocks_text : List ℕ → List ℕ
blocks_text blocks = flat_map block_line blocks
