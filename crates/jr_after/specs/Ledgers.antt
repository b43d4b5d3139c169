-- Believed: what a ledger says of a write (of this project): its line, and whether a sync that returned well was asked for behind it.
use Rattle.std.specs.Prelude.{ℕ, suc, ◌+◌, ◌==◌, Bool, false, ◌&&◌, ◌||◌, List, [], ◌∷◌, Option, Some, None, if◌then◌else◌}
use Rattle.std.specs.List.{list_any}
use Rattle.std.specs.Option.{option_map}
use Rattle.jr_model.specs.declared.events.WriteId.{WriteId}
use Rattle.jr_model.specs.History.{same_write}
use Rattle.jr_ledger.specs.declared.lines.LedgerLine.{LedgerLine}
use Rattle.jr_ledger.specs.declared.lines.LedgerLine.TheVariants as line
use Rattle.jr_ledger.specs.declared.lines.SyncId.{SyncId}

abbrev pub same_sync : SyncId → SyncId → Bool
same_sync a b = (a.file == b.file) && (a.number == b.number)

-- the line is that of this write
abbrev pub is_end_of : WriteId → LedgerLine → Bool
is_end_of write (line.Written other) = same_write write other
is_end_of write (line.Begun sync) = false
is_end_of write (line.Returned sync) = false

-- the line says that this sync returned well
abbrev pub is_return_of : SyncId → LedgerLine → Bool
is_return_of sync (line.Returned other) = same_sync sync other
is_return_of sync (line.Written write) = false
is_return_of sync (line.Begun other) = false

-- the place of the write's line, from 0, if the ledger names it
abbrev pub line_of : List LedgerLine → WriteId → Option ℕ
line_of [] write = None
line_of (l ∷ lines) write = if is_end_of write l then Some 0 else option_map suc (line_of lines write)

-- the line is the begin of a sync of the file whose return is among these below it
abbrev pub is_shut : ℕ → LedgerLine → List LedgerLine → Bool
is_shut file (line.Begun sync) below = (sync.file == file) && list_any (is_return_of sync) below
is_shut file (line.Written write) below = false
is_shut file (line.Returned sync) below = false

-- one of these lines is
abbrev pub has_sync : ℕ → List LedgerLine → Bool
has_sync file [] = false
has_sync file (l ∷ lines) = is_shut file l lines || has_sync file lines

-- how many lines, from the first on, are above such a sync of the file: writes of the file that they name are kept
abbrev pub kept_lines : ℕ → List LedgerLine → ℕ
kept_lines file [] = 0
kept_lines file (l ∷ lines) = if has_sync file (l ∷ lines) then 1 + kept_lines file lines else 0
