-- Believed: what is found by the chunks that an engine read, and what of it is told (of this project).
use Rattle.std.specs.Prelude.{◌≡◌, ℕ, Bool, not, ◌==◌, ◌&&◌, ◌||◌, List, ◌++◌, Option, Some, None, codes, flat_map, map, length}
use Rattle.std.specs.Prelude.{if◌then◌else◌}
use Rattle.std.specs.List.{filter_map, list_any}
use Rattle.jr_ledger.specs.declared.lines.LedgerLine.{LedgerLine}
use Rattle.jr_model.specs.declared.blocks.Piece.{Piece}
use Rattle.jr_model.specs.Plan.{Plan}
use Rattle.jr_model.specs.Replies.{EngineState}
use Rattle.jr_model.specs.Report.{field, file_name}
use Rattle.jr_after.specs.Findings.{finding_on}
use Rattle.jr_after.specs.Writes.{writes_of}
use Rattle.jr_after_report.specs.declared.lines.Judged.{Judged}
use Rattle.jr_after_report.specs.Reports.{FileFound, FileState, has_fault, report_of, state_of}
use Rattle.jr_cli_after.specs.Readings.{AreFilesRead, FileRead, Reading, file_readings}

-- a plan and the ledger of its run
pub record Asked : Type 0 where
  pub plan : Plan
  pub lines : List LedgerLine

-- a chunk that was read whole is judged by its bytes
abbrev pub judged_of : Asked → Reading → Option Judged
judged_of asked reading =
    if reading.whole
    then Some (record { chunk = reading.chunk; finding = finding_on (writes_of asked.plan) asked.lines reading.chunk reading.bytes })
    else None

-- any other isn't
abbrev pub unread_of : Reading → Option Piece
unread_of reading = if reading.whole then None else Some reading.chunk

abbrev pub place_text : Plan → Piece → List ℕ
place_text plan chunk =
    codes " file=" ++ file_name plan chunk.file ++ field (codes "offset") chunk.offset ++ field (codes "length") chunk.len

-- the line of a chunk that couldn't be read
abbrev pub unread_line : Plan → Piece → List ℕ
unread_line plan chunk = codes "fault:" ++ place_text plan chunk ++ codes "\n"

-- what is found in a file by these readings
abbrev pub found_by : Asked → ℕ → List Reading → FileFound
found_by asked file readings = record { file = file; chunks = filter_map (judged_of asked) readings }

abbrev pub unread_by : List Reading → List Piece
unread_by readings = filter_map unread_of readings

-- the chunks of a file that couldn't be read: which and how many, and their lines
pub record UnreadState : Type 0 where
  pub count : ℕ
  pub lines : List ℕ
  pub chunks : List Piece

abbrev pub unread_state : Plan → List Piece → UnreadState
unread_state plan chunks = record { count = length chunks; lines = flat_map (unread_line plan) chunks; chunks = chunks }

-- what of a file is told: of its chunks that were judged, and of the others
pub record FileAfterState : Type 0 where
  pub found : FileState
  pub unread : UnreadState

abbrev pub after_state : Asked → ℕ → List Reading → FileAfterState
after_state asked file readings = record {
  found = state_of asked.plan (found_by asked file readings);
  unread = unread_state asked.plan (unread_by readings);
}

-- what of all files is told
pub record AfterState : Type 0 where
  pub found : List FileState
  pub unread : List UnreadState

abbrev pub found_in : Asked → FileRead → FileFound
found_in asked one = found_by asked one.file (file_readings one)

abbrev pub state_found : Asked → FileRead → FileState
state_found asked one = state_of asked.plan (found_in asked one)

abbrev pub state_unread : Asked → FileRead → UnreadState
state_unread asked one = unread_state asked.plan (unread_by (file_readings one))

-- what is told of these files
abbrev pub told_of : Asked → List FileRead → AfterState
told_of asked files = record { found = map (state_found asked) files; unread = map (state_unread asked) files }

-- each file of the plan was read, beginning with the engine old and ending with new, and this is what is told of them
pub record IsAfter (asked : Asked) (old : EngineState) (told : AfterState) (new : EngineState) : Type 0 where
  pub files : List FileRead
  pub each : length files ≡ length asked.plan.files
  pub read : AreFilesRead asked.plan 0 old files new
  pub told_is : told ≡ told_of asked files

abbrev pub lines_in : UnreadState → List ℕ
lines_in state = state.lines

abbrev pub chunks_in : UnreadState → List Piece
chunks_in state = state.chunks

abbrev pub has_some : UnreadState → Bool
has_some state = not (state.count == 0)

abbrev pub has_fault_counted : FileState → Bool
has_fault_counted state = not ((state.counts.lost == 0) && (state.counts.broken == 0))

abbrev pub unread_text : Plan → FileRead → List ℕ
unread_text plan one = flat_map (unread_line plan) (unread_by (file_readings one))

-- the report of these files: that of the chunks that were judged, and then a line for each that couldn't be read
abbrev pub report_after : Asked → List FileRead → List ℕ
report_after asked files = report_of asked.plan (map (found_in asked) files) ++ flat_map (unread_text asked.plan) files

abbrev pub has_lost : Asked → FileRead → Bool
has_lost asked one = has_fault (found_in asked one)

abbrev pub has_unread : FileRead → Bool
has_unread one = not (length (unread_by (file_readings one)) == 0)

-- the status of the program: 1 if a chunk isn't as the storage promised, or one couldn't be read
abbrev pub status_after : Asked → List FileRead → ℕ
status_after asked files = if list_any (has_lost asked) files || list_any has_unread files then 1 else 0
