-- Believed: what is said of the bytes of a chunk after a cut, by the writes over it and the ledger (of this project).
use Rattle.std.specs.Prelude.{ℕ, ◌+◌, ◌*◌, ◌/◌, ◌==◌, nat_lt, nat_le, max, Bool, true, false, ◌&&◌, List, [], ◌∷◌, map, take, drop, Option, Some, None, if◌then◌else◌}
use Rattle.std.specs.List.{list_any, list_all, range_with_len}
use Rattle.jr_model.specs.declared.blocks.Piece.{Piece}
use Rattle.jr_model.specs.declared.events.WriteId.{WriteId}
use Rattle.jr_model.specs.declared.limits.TheConstants.{SECTOR}
use Rattle.jr_model.specs.Judgement.{same_bytes}
use Rattle.jr_ledger.specs.declared.lines.LedgerLine.{LedgerLine}
use Rattle.jr_after.specs.declared.findings.Finding.{Finding}
use Rattle.jr_after.specs.declared.findings.Finding.TheVariants.{Open, Kept, Lost, Torn, Broken}
use Rattle.jr_after.specs.declared.writes.PlannedWrite.{PlannedWrite}
use Rattle.jr_after.specs.declared.writes.Named.{Named}
use Rattle.jr_after.specs.Ledgers.{line_of, kept_lines}
use Rattle.jr_after.specs.Writes.{bytes_in, writes_over}

-- a write with its line
abbrev pub named_by : List LedgerLine → PlannedWrite → Named
named_by lines planned = record { planned = planned; line = line_of lines planned.write }

-- the number of a line, from 1, if it is one of the first `kept`; else 0
abbrev pub kept_number : ℕ → Option ℕ → ℕ
kept_number kept None = 0
kept_number kept (Some i) = if nat_lt i kept then i + 1 else 0

-- the number of the last line of kept writes, from 1; 0 where none of these writes is kept
abbrev pub last_kept : ℕ → List Named → ℕ
last_kept kept [] = 0
last_kept kept (named ∷ over) = max (kept_number kept named.line) (last_kept kept over)

-- a write with this line may stand behind the kept write whose line has the number `last`: it is that write or one of a later line, or
-- the ledger doesn't name it
abbrev pub stands_by : ℕ → Option ℕ → Bool
stands_by last None = true
stands_by last (Some i) = nat_le last (i + 1)

abbrev pub may_stand : ℕ → Named → Bool
may_stand last named = stands_by last named.line

-- the bytes are those that the write put into the chunk
abbrev pub is_held : Piece → List ℕ → Named → Bool
is_held chunk bytes named = same_bytes bytes (bytes_in named.planned chunk)

-- the first for which the test holds
abbrev pub first_such : {X : Type 0} → (X → Bool) → List X → Option X
first_such test [] = None
first_such test (x ∷ xs) = if test x then Some x else first_such test xs

-- the 512 bytes at this place
abbrev pub sector_of : List ℕ → ℕ → List ℕ
sector_of bytes i = take SECTOR (drop (i * SECTOR) bytes)

-- the piece of a file that they are, in a chunk
abbrev pub sector_at : Piece → ℕ → Piece
sector_at chunk i = record { file = chunk.file; offset = chunk.offset + i * SECTOR; len = SECTOR }

-- they are those of one of these writes that may stand there
abbrev pub is_sector_held : ℕ → List Named → Piece → List ℕ → ℕ → Bool
is_sector_held last over chunk bytes i =
    list_any (λ (named : Named). may_stand last named && same_bytes (sector_of bytes i) (bytes_in named.planned (sector_at chunk i))) over

-- each 512 bytes are of a write that may stand there
abbrev pub is_torn : ℕ → List Named → Piece → List ℕ → Bool
is_torn last over chunk bytes = list_all (is_sector_held last over chunk bytes) (range_with_len 0 (chunk.len / SECTOR))

-- the bytes are exactly those of a write that may stand there
abbrev pub is_kept : ℕ → List Named → Piece → List ℕ → Bool
is_kept last over chunk bytes = list_any (λ (named : Named). may_stand last named && is_held chunk bytes named) over

-- where they aren't: what is found there
abbrev pub fault_by : Named → ℕ → List Named → Piece → List ℕ → Option Named → Finding
fault_by kept last over chunk bytes (Some found) = Lost kept.planned.write found.planned.write
fault_by kept last over chunk bytes None =
    if is_torn last over chunk bytes then Torn kept.planned.write else Broken kept.planned.write

-- behind this kept write
abbrev pub finding_by : ℕ → List Named → Piece → List ℕ → Option Named → Finding
finding_by last over chunk bytes None = Open
finding_by last over chunk bytes (Some kept) =
    if is_kept last over chunk bytes
    then Kept
    else fault_by kept last over chunk bytes (first_such (is_held chunk bytes) over)

-- its name
abbrev pub name_of : Named → WriteId
name_of named = named.planned.write

-- the last kept write of these
abbrev pub kept_write : ℕ → List Named → Option Named
kept_write kept over =
    let last = last_kept kept over in
    if last == 0 then None else first_such (λ (named : Named). kept_number kept named.line == last) over

-- the finding on the bytes of a chunk that these writes are over, of which those in the first `kept` lines are kept
abbrev pub finding_of : ℕ → List Named → Piece → List ℕ → Finding
finding_of kept over chunk bytes = finding_by (last_kept kept over) over chunk bytes (kept_write kept over)

-- the finding on the bytes of a chunk, by all writes of a plan and the ledger
abbrev pub finding_on : List PlannedWrite → List LedgerLine → Piece → List ℕ → Finding
finding_on writes lines chunk bytes =
    finding_of (kept_lines chunk.file lines) (map (named_by lines) (writes_over chunk writes)) chunk bytes

-- nothing is told of it
abbrev pub is_quiet : Finding → Bool
is_quiet Open = true
is_quiet Kept = true
is_quiet (Torn kept) = false
is_quiet (Lost kept found) = false
is_quiet (Broken kept) = false
