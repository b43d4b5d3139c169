-- Believed: the last write of a 512-byte block of a file (of this project; fio's manual, "verify"). Blocks of a file are
-- counted from its start.
use Rattle.std.specs.Prelude.{ℕ, ◌+◌, ◌*◌, ◌/◌, ◌==◌, nat_lt, nat_le, Bool, false, not, ◌&&◌, List, Option, Some, None, slice_get, fold, if◌then◌else◌}
use Rattle.std.specs.List.{list_all, range_with_len}
use Rattle.jr_model.specs.declared.limits.TheConstants.{SECTOR}
use Rattle.jr_model.specs.declared.blocks.Piece.{Piece}
use Rattle.jr_model.specs.declared.events.Event.{Event}
use Rattle.jr_model.specs.declared.events.Event.TheVariants.{Issue, Probe, Skip, End, Verdict}
use Rattle.jr_model.specs.declared.events.Outcome.{Outcome}
use Rattle.jr_model.specs.declared.events.WriteId.{WriteId}
use Rattle.jr_model.specs.History.{Started, started, is_write, ended_whole, same_write}
use Rattle.jr_model.specs.Races.{has_raced}

-- the block of this file lies in the piece
abbrev pub covers_block : Piece → ℕ → ℕ → Bool
covers_block piece file block =
    (piece.file == file) && nat_le piece.offset (block * SECTOR) && nat_lt (block * SECTOR) (piece.offset + piece.len)

-- what the end of an I/O makes of the block's last write: a whole write is it from then on, and a write that raced, failed or
-- ended short leaves none; all else leaves it as it is
abbrev pub last_after_end : Bool → Option Started → Outcome → ℕ → ℕ → Option WriteId → Option WriteId
last_after_end raced None outcome file block last = last
last_after_end raced (Some io) outcome file block last =
    if is_write io.kind && covers_block io.piece file block
    then (if ended_whole (Some outcome) && not raced then Some io.write else None)
    else last

-- what an event makes of the block's last write, where these I/Os are started and these of them raced
abbrev pub last_after : (ℕ → Bool) → List Started → ℕ → ℕ → Option WriteId → Event → Option WriteId
last_after raced ios file block last (End worker io outcome) = last_after_end (raced io) (slice_get ios io) outcome file block last
last_after raced ios file block last (Issue worker kind write piece) = last
last_after raced ios file block last (Probe worker write piece) = last
last_after raced ios file block last (Skip worker write) = last
last_after raced ios file block last (Verdict worker io verdict) = last

-- the write that ended last of all that cover the block, if it ended whole and didn't race; none where none ended
abbrev pub last_write : List Event → ℕ → ℕ → Option WriteId
last_write history file block =
    let ios = started history in
    fold (last_after (has_raced history) ios file block) None history

-- it is this write
abbrev pub is_this_write : WriteId → Option WriteId → Bool
is_this_write write None = false
is_this_write write (Some other) = same_write other write

-- the blocks of a piece
abbrev pub blocks_of : Piece → List ℕ
blocks_of piece = range_with_len (piece.offset / SECTOR) (piece.len / SECTOR)

-- the write is the last one of each block of its piece
abbrev pub is_intact : List Event → WriteId → Piece → Bool
is_intact history write piece =
    list_all (λ block. is_this_write write (last_write history piece.file block)) (blocks_of piece)
