-- Believed: the chunks of a plan's files that an engine is asked for, one after another, and what it answers (of this project).
use Rattle.std.specs.Prelude.{◌≡◌, ℕ, suc, ◌+◌, ◌-◌, ◌==◌, Bool, false, not, ◌&&◌, length, take, drop, map, flat_map, List, [], ◌∷◌}
use Rattle.std.specs.Prelude.{Some, None, Result, Ok, Err, if◌then◌else◌}
use Rattle.jr_model.specs.declared.blocks.Piece.{Piece}
use Rattle.jr_model.specs.Plan.{Plan}
use Rattle.jr_model.specs.Replies.{EngineState}
use Rattle.jr_engines.specs.declared.faults.EngineFault.{EngineFault}
use Rattle.jr_engines.specs.Calls.{Counts, ReadsInside}
use Rattle.jr_after_chunks.specs.Next.{next_chunk}

-- a call for some bytes of a file: the buffer before it, what the engine answered, the buffer then, and the engine then
pub record Call : Type 0 where
  pub piece : Piece
  pub before : List ℕ
  pub answer : Result ℕ EngineFault
  pub bytes : List ℕ
  pub engine : EngineState

-- the engine was called once, for these bytes of the file, and answered so
pub record IsCall (old : EngineState) (call : Call) : Type 0 where
  pub counts : Counts old call.answer call.engine
  pub room : length call.before ≡ call.piece.len
  pub length_is : length call.bytes ≡ call.piece.len
  pub replies : ReadsInside old call.piece.file call.piece.offset call.before call.answer call.engine call.bytes

-- so it was for each of these calls, in their order
abbrev pub AreCalls : EngineState → List Call → EngineState → Type 0
AreCalls old [] new = new ≡ old
AreCalls old (call ∷ calls) new = IsCall old call × AreCalls call.engine calls new

-- it answered that it got so many bytes
abbrev pub has_all : Result ℕ EngineFault → ℕ → Bool
has_all (Ok count) len = count == len
has_all (Err fault) len = false

-- it got all that it was called for
abbrev pub is_whole : Call → Bool
is_whole call = has_all call.answer call.piece.len

-- what is read of a chunk: whether that is all of it, and the bytes
pub record Reading : Type 0 where
  pub chunk : Piece
  pub whole : Bool
  pub bytes : List ℕ

-- by a call for it alone
abbrev pub reading_of : Call → Reading
reading_of call = record { chunk = call.piece; whole = is_whole call; bytes = call.bytes }

-- a chunk's part of bytes that stand in the file from an offset on
abbrev pub part_of : ℕ → List ℕ → Piece → List ℕ
part_of offset bytes chunk = take chunk.len (drop (chunk.offset - offset) bytes)

-- what is read of a chunk by a call for more
abbrev pub reading_in : Call → Piece → Reading
reading_in call chunk = record { chunk = chunk; whole = is_whole call; bytes = part_of call.piece.offset call.bytes chunk }

abbrev pub end_of : Piece → ℕ
end_of chunk = chunk.offset + chunk.len

-- chunks of a file from an offset up to an end, each beginning where the one before it ends
abbrev pub AreBeside : Plan → ℕ → ℕ → List Piece → ℕ → Type 0
AreBeside plan file from [] end = end ≡ from
AreBeside plan file from (chunk ∷ chunks) end =
    (next_chunk plan.clones file from ≡ Some chunk) × (chunk.offset ≡ from) × AreBeside plan file (end_of chunk) chunks end

-- each chunk of several is read alone where the call for all of them didn't get all
abbrev pub is_split : Call → List Piece → Bool
is_split call chunks = not (is_whole call) && not (length chunks == 1)

-- what is read of chunks by a call for all of them, and those for each alone
abbrev pub readings_by : Call → List Call → List Piece → List Reading
readings_by call alone chunks = if is_split call chunks then map reading_of alone else map (reading_in call) chunks

-- a row of chunks: the first, those that follow it without a gap, the call for all of their bytes, those for each alone, and the
-- engine then
pub record RowRead : Type 0 where
  pub first : Piece
  pub others : List Piece
  pub call : Call
  pub alone : List Call
  pub engine : EngineState

abbrev pub chunks_of : RowRead → List Piece
chunks_of row = row.first ∷ row.others

abbrev pub readings_of : RowRead → List Reading
readings_of row = readings_by row.call row.alone (chunks_of row)

abbrev pub piece_of : Call → Piece
piece_of call = call.piece

-- the row has the first chunk of the file from an offset on, and was read so; it began with the engine old
pub record IsRowRead (plan : Plan) (file : ℕ) (old : EngineState) (from : ℕ) (row : RowRead) : Type 0 where
  pub first : next_chunk plan.clones file from ≡ Some row.first
  pub others : AreBeside plan file (end_of row.first) row.others (end_of row.call.piece)
  pub in_file : row.call.piece.file ≡ file
  pub begins : row.call.piece.offset ≡ row.first.offset
  pub call : IsCall old row.call
  pub each : map piece_of row.alone ≡ (if is_split row.call (chunks_of row) then chunks_of row else [])
  pub alone : AreCalls row.call.engine row.alone row.engine

-- the chunks of a file from an offset on were read in rows, one after another, up to an end; it began with the engine old and
-- ended with new
abbrev pub AreRowsRead : Plan → ℕ → EngineState → ℕ → List RowRead → ℕ → EngineState → Type 0
AreRowsRead plan file old from [] end new = (end ≡ from) × (new ≡ old)
AreRowsRead plan file old from (row ∷ rows) end new =
    IsRowRead plan file old from row × AreRowsRead plan file row.engine (end_of row.call.piece) rows end new

-- the calls for a file, and the engine after them
pub record FileRead : Type 0 where
  pub file : ℕ
  pub rows : List RowRead
  pub engine : EngineState

-- what is read of its chunks
abbrev pub file_readings : FileRead → List Reading
file_readings one = flat_map readings_of one.rows

-- each chunk of the file was read, in the order of their places: from an end on there is none
pub record IsFileRead (plan : Plan) (old : EngineState) (one : FileRead) : Type 0 where
  pub end : ℕ
  pub read : AreRowsRead plan one.file old 0 one.rows end one.engine
  pub none : next_chunk plan.clones one.file end ≡ None

-- so were files from this one on, in their order
abbrev pub AreFilesRead : Plan → ℕ → EngineState → List FileRead → EngineState → Type 0
AreFilesRead plan file old [] new = new ≡ old
AreFilesRead plan file old (one ∷ files) new =
    (one.file ≡ file) × IsFileRead plan old one × AreFilesRead plan (suc file) one.engine files new
