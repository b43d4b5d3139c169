-- Internal: chunks side by side that are read, and what they add to what is told of their file.
use Rattle.std.specs.Prelude.{◌≡◌, ℕ, ◌+◌, ◌≤◌, ◌<◌, ◌^◌, All, Some, Bool, List, [], ◌∷◌, ◌++◌, length, map, flat_map, if◌then◌else◌}
use Rattle.jr_model.specs.declared.blocks.Piece.{Piece}
use Rattle.jr_model.specs.declared.limits.TheConstants.{LARGEST_END}
use Rattle.jr_model.specs.Plan.{Plan}
use Rattle.jr_model.specs.Replies.{EngineState}
use Rattle.jr_after.specs.declared.findings.Finding.{Finding}
use Rattle.jr_after.specs.Findings.{finding_on}
use Rattle.jr_after.specs.Writes.{writes_of}
use Rattle.jr_after_report.specs.Counting.{total_of}
use Rattle.jr_after_report.specs.Reports.{FileState}
use Rattle.jr_after_chunks.specs.Next.{IsReadable, next_chunk}
use Rattle.jr_cli_after.specs.Found.{Asked, FileAfterState, UnreadState, after_state, state_found, state_unread}
use Rattle.jr_cli_after.specs.Readings.{AreBeside, AreCalls, AreFilesRead, AreRowsRead, Call, FileRead, IsCall, IsFileRead}
use Rattle.jr_cli_after.specs.Readings.{Reading, RowRead}
use Rattle.jr_cli_after.specs.Readings.{end_of, is_split, is_whole, part_of, piece_of, reading_of, readings_by, readings_of}

-- the bytes were read so, and all of them were got or not
pub record HasRead (piece : Piece) (old : EngineState) (whole : Bool) (bytes : List ℕ) (new : EngineState) : Type 0 where
  pub call : Call
  pub piece_is : call.piece ≡ piece
  pub is : IsCall old call
  pub whole_is : is_whole call ≡ whole
  pub bytes_are : call.bytes ≡ bytes
  pub engine_is : call.engine ≡ new

-- the chunk has bytes, and all of them are among these
pub record IsPartOf (piece chunk : Piece) : Type 0 where
  pub file_is : chunk.file ≡ piece.file
  pub some : 0 < chunk.len
  pub low : piece.offset ≤ chunk.offset
  pub high : end_of chunk ≤ end_of piece

-- chunks that lie side by side, the first being this one, and all of their bytes
pub record IsRow (plan : Plan) (first : Piece) (chunks : List Piece) (piece : Piece) : Type 0 where
  pub others : List Piece
  pub chunks_are : chunks ≡ first ∷ others
  pub beside : AreBeside plan first.file (end_of first) others (end_of piece)
  pub in_file : piece.file ≡ first.file
  pub begins : piece.offset ≡ first.offset
  pub parts : All (IsPartOf piece) chunks
  pub few : length chunks ≤ piece.len
  pub high : end_of piece ≤ LARGEST_END

-- the chunk that begins where these bytes end
pub record IsFollowing (plan : Plan) (piece chunk : Piece) : Type 0 where
  pub next : next_chunk plan.clones piece.file (end_of piece) ≡ Some chunk
  pub begins : chunk.offset ≡ end_of piece
  pub readable : IsReadable piece.file chunk
  pub short : piece.len + chunk.len < 2 ^ 32

-- how many chunks are told of
abbrev pub count_in : FileAfterState → ℕ
count_in state = total_of state.found.counts + state.unread.count

-- what is found by a reading of the chunk with these bytes was added, that got the whole of it or not
pub record IsAdded (asked : Asked) (chunk : Piece) (whole : Bool) (bytes : List ℕ) (before after : FileAfterState) : Type 0 where
  pub count : count_in after ≡ count_in before + 1
  pub added : (reading : Reading) (file : ℕ) (readings : List Reading)
      → reading.chunk ≡ chunk → reading.whole ≡ whole → reading.bytes ≡ bytes
      → before ≡ after_state asked file readings → after ≡ after_state asked file (readings ++ reading ∷ [])

-- what is found by these readings was added
pub record AreAdded (asked : Asked) (more : List Reading) (before after : FileAfterState) : Type 0 where
  pub count : count_in after ≡ count_in before + length more
  pub added : (file : ℕ) (readings : List Reading)
      → before ≡ after_state asked file readings → after ≡ after_state asked file (readings ++ more)

-- what is read of a chunk whose bytes are among these
abbrev pub reading_at : Piece → Bool → List ℕ → Piece → Reading
reading_at piece whole bytes chunk = record { chunk = chunk; whole = whole; bytes = part_of piece.offset bytes chunk }

-- what is found by a chunk whose bytes are among these, from this offset of the file on
abbrev pub found_at : Asked → ℕ → List ℕ → Piece → Finding
found_at asked offset bytes chunk = finding_on (writes_of asked.plan) asked.lines chunk (part_of offset bytes chunk)

-- each of these chunks was read alone, and what is found was added
pub record AreAlone (asked : Asked) (chunks : List Piece) (old : EngineState) (before after : FileAfterState)
    (new : EngineState) : Type 0 where
  pub calls : List Call
  pub each : map piece_of calls ≡ chunks
  pub are : AreCalls old calls new
  pub added : AreAdded asked (map reading_of calls) before after

-- these chunks were read by a call for all of them, and each alone where that was to be; and what is found was added
pub record IsStep (asked : Asked) (chunks : List Piece) (piece : Piece) (old : EngineState) (before after : FileAfterState)
    (new : EngineState) : Type 0 where
  pub call : Call
  pub alone : List Call
  pub piece_is : call.piece ≡ piece
  pub is : IsCall old call
  pub each : map piece_of alone ≡ (if is_split call chunks then chunks else [])
  pub are : AreCalls call.engine alone new
  pub added : AreAdded asked (readings_by call alone chunks) before after

-- the chunks of a file were read up to an end, and what was found is told
pub record IsWalk (asked : Asked) (file : ℕ) (old : EngineState) (end : ℕ) (state : FileAfterState) (new : EngineState) : Type 0 where
  pub rows : List RowRead
  pub read : AreRowsRead asked.plan file old 0 rows end new
  pub told : state ≡ after_state asked file (flat_map readings_of rows)
  pub few : count_in state ≤ end

-- each chunk of the file was read, and what was found is told
pub record IsFileAfter (asked : Asked) (file : ℕ) (old : EngineState) (state : FileAfterState) (new : EngineState) : Type 0 where
  pub one : FileRead
  pub file_is : one.file ≡ file
  pub read : IsFileRead asked.plan old one
  pub told : state ≡ after_state asked file (flat_map readings_of one.rows)
  pub engine_is : one.engine ≡ new

-- so many files, from the first on, were read, and what was found is told
pub record AreTold (asked : Asked) (old : EngineState) (count : ℕ) (found : List FileState) (unread : List UnreadState)
    (new : EngineState) : Type 0 where
  pub files : List FileRead
  pub each : length files ≡ count
  pub read : AreFilesRead asked.plan 0 old files new
  pub found_is : found ≡ map (state_found asked) files
  pub unread_is : unread ≡ map (state_unread asked) files
