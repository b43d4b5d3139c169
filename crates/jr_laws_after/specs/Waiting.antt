-- Claimed: it changes no finding whether lines of writes at a ledger's end have arrived (of this project).
use Rattle.std.specs.Prelude.{◌≡◌, ℕ, List, ◌++◌, map}
use Rattle.jr_model.specs.declared.blocks.Piece.{Piece}
use Rattle.jr_model.specs.declared.events.WriteId.{WriteId}
use Rattle.jr_ledger.specs.declared.lines.LedgerLine.{LedgerLine}
use Rattle.jr_ledger.specs.declared.lines.LedgerLine.TheVariants as line
use Rattle.jr_after.specs.declared.writes.PlannedWrite.{PlannedWrite}
use Rattle.jr_after.specs.Findings.{finding_on}

-- the lines of these writes
abbrev pub lines_of : List WriteId → List LedgerLine
lines_of late = map line.Written late

-- what is said of a chunk by a ledger's lines is said of it, too, if lines of writes come after them: until a sync begins these may wait
abbrev pub LateWritesChangeNothing : Type 0
LateWritesChangeNothing =
    (writes : List PlannedWrite) (lines : List LedgerLine) (late : List WriteId) (chunk : Piece) (bytes : List ℕ)
    → finding_on writes (lines ++ lines_of late) chunk bytes ≡ finding_on writes lines chunk bytes
