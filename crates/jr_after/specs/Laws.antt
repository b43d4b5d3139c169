-- Claimed: a storage that keeps its promise isn't blamed (of this project).
use Rattle.std.specs.Prelude.{◌≡◌, ℕ, ◌<◌, Bool, true, ◌&&◌, List, [], ◌++◌, Option, Some, None}
use Rattle.std.specs.List.{list_any}
use Rattle.jr_model.specs.declared.blocks.Piece.{Piece}
use Rattle.jr_model.specs.declared.events.WriteId.{WriteId}
use Rattle.jr_model.specs.History.{same_write}
use Rattle.jr_model.specs.Judgement.{same_bytes}
use Rattle.jr_model.specs.Pieces.{pieces_overlap}
use Rattle.jr_after.specs.declared.writes.PlannedWrite.{PlannedWrite}
use Rattle.jr_after.specs.Findings.{finding_on, is_quiet}
use Rattle.jr_after.specs.Storage.{Moment, MayHold, is_course, lines_noted}
use Rattle.jr_after.specs.Writes.{bytes_in, writes_over}

-- two of these writes share a byte
abbrev pub is_of : WriteId → PlannedWrite → Bool
is_of write planned = same_write planned.write write

abbrev pub do_meet : List PlannedWrite → WriteId → WriteId → Bool
do_meet writes a b =
    list_any (λ (p : PlannedWrite). is_of a p && list_any (λ (q : PlannedWrite). is_of b q && pieces_overlap p.piece q.piece) writes) writes

-- one of these writes has this name
abbrev pub has_name : List PlannedWrite → WriteId → Bool
has_name writes write = list_any (is_of write) writes

-- the bytes are those of this write of the chunk; what stood there before may be anything
abbrev pub AreBytesOf : List PlannedWrite → Piece → Option WriteId → List ℕ → Type 0
AreBytesOf over chunk None bytes = Unit {0}
AreBytesOf over chunk (Some write) bytes =
    list_any (λ (p : PlannedWrite). is_of write p && same_bytes bytes (bytes_in p chunk)) over ≡ true

-- whatever a storage that keeps its promise holds in a chunk after a cut, and whatever of the ledger's end didn't arrive (the lines of
-- `later`): nothing is told of the chunk
abbrev pub NothingIsTold : Type 0
NothingIsTold =
    (writes : List PlannedWrite) (chunk : Piece) (arrived later : List Moment) (held : Option WriteId) (bytes : List ℕ)
    → 0 < chunk.len
    → is_course (do_meet writes) [] (arrived ++ later) ≡ true
    → MayHold (has_name (writes_over chunk writes)) chunk.file (arrived ++ later) held
    → AreBytesOf (writes_over chunk writes) chunk held bytes
    → is_quiet (finding_on writes (lines_noted arrived) chunk bytes) ≡ true
