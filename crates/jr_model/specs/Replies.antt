-- Believed: what an engine with a known memory does at a call, and what a scripted reply makes of it (of this project).
use Rattle.std.specs.Prelude.{ℕ, zero, suc, ◌+◌, ◌-◌, min, nat_le, nat_lt, ◌==◌, bit_xor, Bool, false, ◌&&◌, List, [], ◌∷◌, ◌++◌, length, map, replicate, take, drop, slice_index, slice_set, slice_get, Option, Some, None, if◌then◌else◌}
use Rattle.jr_model.specs.Plan.{FileSpec}
use Rattle.jr_model.specs.declared.blocks.Piece.{Piece}
use Rattle.jr_model.specs.declared.events.Outcome.{Outcome}
use Rattle.jr_model.specs.declared.events.Outcome.TheVariants as outcome
use Rattle.jr_model.specs.declared.replies.Reply.{Reply}
use Rattle.jr_model.specs.declared.replies.Reply.TheVariants.{Pass, Fail, Short, Torn, Flip, Drop, Bytes}
use Rattle.jr_model.specs.declared.tickets.TicketKind.{TicketKind}
use Rattle.jr_model.specs.declared.tickets.TicketKind.TheVariants as ticket

-- the bytes that an engine keeps of one file, from low up to high
pub record FileBytes : Type 0 where
  pub low : ℕ
  pub high : ℕ
  pub bytes : List ℕ

-- a file of zeros from low up to high
abbrev pub zeros : ℕ → ℕ → FileBytes
zeros low high = record { low = low; high = high; bytes = replicate (high - low) 0 }

-- the bytes of a plan's file before anything was written
abbrev pub fresh_file : FileSpec → FileBytes
fresh_file file = zeros file.low file.high

-- the bytes of these files before anything was written
abbrev pub fresh_memory : List FileSpec → List FileBytes
fresh_memory files = map fresh_file files

-- the file has all bytes from offset on, n of them
abbrev pub covers_range : FileBytes → ℕ → ℕ → Bool
covers_range file offset n =
    nat_le file.low offset && nat_le (offset + n) file.high && (length file.bytes == file.high - file.low)

-- the file is there, with all of these bytes
abbrev pub covered_in : Option FileBytes → ℕ → ℕ → Bool
covered_in None offset n = false
covered_in (Some bytes) offset n = covers_range bytes offset n

-- the memory has this file, and all of these bytes of it
abbrev pub covers : List FileBytes → ℕ → ℕ → ℕ → Bool
covers memory file offset n = covered_in (slice_get memory file) offset n

-- n bytes of a file from offset on
abbrev pub range_of : FileBytes → ℕ → ℕ → List ℕ
range_of file offset n = take n (drop (offset - file.low) file.bytes)

-- n bytes of a file, if it is there, from offset on
abbrev pub stored_in : Option FileBytes → ℕ → ℕ → List ℕ
stored_in None offset n = []
stored_in (Some bytes) offset n = range_of bytes offset n

-- n bytes of the memory's file from offset on
abbrev pub stored : List FileBytes → ℕ → ℕ → ℕ → List ℕ
stored memory file offset n = stored_in (slice_get memory file) offset n

-- the bytes once new ones stand in them from a place on
abbrev pub placed : List ℕ → ℕ → List ℕ → List ℕ
placed bytes place new = take place bytes ++ new ++ drop (place + length new) bytes

-- the file once data stands in it from offset on
abbrev pub file_with : FileBytes → ℕ → List ℕ → FileBytes
file_with file offset «data» = record file { bytes = placed file.bytes (offset - file.low) «data» }

-- the memory once data stands in this file from offset on
abbrev pub memory_with : List FileBytes → ℕ → ℕ → List ℕ → List FileBytes
memory_with [] file offset «data» = []
memory_with (first ∷ files) zero offset «data» = file_with first offset «data» ∷ files
memory_with (first ∷ files) (suc file) offset «data» = first ∷ memory_with files file offset «data»

-- byte i the other way round, where there is one
abbrev pub flipped : List ℕ → ℕ → List ℕ
flipped bytes i = slice_set bytes i (bit_xor (slice_index bytes i) 0xff)

-- new bytes over the first ones of old, as many as old has
abbrev pub overlaid : List ℕ → List ℕ → List ℕ
overlaid new old = take (length old) new ++ drop (length new) old

-- what a read answers: how many bytes it gave, or nothing where it failed; and the buffer that it leaves
pub record ReadReply : Type 0 where
  pub count : Option ℕ
  pub buffer : List ℕ

-- a read of these stored bytes into a buffer of as many
abbrev pub reply_to_read : Reply → List ℕ → List ℕ → ReadReply
reply_to_read Pass bytes buffer = record { count = Some (length bytes); buffer = bytes }
reply_to_read Fail bytes buffer = record { count = None; buffer = buffer }
reply_to_read (Short n) bytes buffer = record { count = Some (min n (length bytes)); buffer = take n bytes ++ drop n buffer }
reply_to_read (Torn n) bytes buffer = record { count = None; buffer = buffer }
reply_to_read (Flip i) bytes buffer = record { count = Some (length bytes); buffer = flipped bytes i }
reply_to_read Drop bytes buffer = record { count = Some (length bytes); buffer = bytes }
reply_to_read (Bytes new) bytes buffer = record { count = Some (length bytes); buffer = overlaid new bytes }

-- what a write answers: how many bytes it took, or nothing where it failed; and the bytes that it stored, from the
-- piece's first on
pub record WriteReply : Type 0 where
  pub count : Option ℕ
  pub stored : List ℕ

-- a write of these bytes
abbrev pub reply_to_write : Reply → List ℕ → WriteReply
reply_to_write Pass «data» = record { count = Some (length «data»); stored = «data» }
reply_to_write Fail «data» = record { count = None; stored = [] }
reply_to_write (Short n) «data» = record { count = Some (min n (length «data»)); stored = take n «data» }
reply_to_write (Torn n) «data» = record { count = None; stored = take n «data» }
reply_to_write (Flip i) «data» = record { count = Some (length «data»); stored = flipped «data» i }
reply_to_write Drop «data» = record { count = Some (length «data»); stored = [] }
reply_to_write (Bytes new) «data» = record { count = Some (length «data»); stored = «data» }

-- the reply to call number n of a script: that of its first entry for it, else Pass
abbrev pub scripted_reply : List (ℕ × Reply) → ℕ → Reply
scripted_reply [] n = Pass
scripted_reply (entry ∷ script) n = if entry.0 == n then entry.1 else scripted_reply script n

-- what contracts see of an engine: its calls so far and how many of them failed; and, where they are known, its memory
-- and the replies to its calls
pub record EngineState : Type 0 where
  pub calls : ℕ
  pub failures : ℕ
  pub is_known : Bool
  pub memory : List FileBytes
  pub script : List (ℕ × Reply)

-- the reply to its next call
abbrev pub next_reply : EngineState → Reply
next_reply engine = scripted_reply engine.script engine.calls

-- how a call over so many bytes ended that moved n of them, or failed
abbrev pub outcome_for : Option ℕ → ℕ → Outcome
outcome_for None len = outcome.Failed
outcome_for (Some n) len = if nat_lt n len then outcome.Short n else outcome.Whole

-- what a ticket's call leaves: its outcome, the bytes of its buffer, and the memory
pub record Asked : Type 0 where
  pub outcome : Outcome
  pub bytes : List ℕ
  pub memory : List FileBytes

-- a read of the piece into this buffer
abbrev pub asked_read : Reply → List FileBytes → Piece → List ℕ → Asked
asked_read reply memory piece buffer =
    let answer = reply_to_read reply (stored memory piece.file piece.offset piece.len) buffer in
    record { outcome = outcome_for answer.count piece.len; bytes = answer.buffer; memory = memory }

-- a write of this buffer over the piece
abbrev pub asked_write : Reply → List FileBytes → Piece → List ℕ → Asked
asked_write reply memory piece buffer =
    let answer = reply_to_write reply buffer in
    record {
      outcome = outcome_for answer.count piece.len;
      bytes = buffer;
      memory = memory_with memory piece.file piece.offset answer.stored;
    }

-- one call for a ticket of this kind, over a memory that covers the piece
abbrev pub asked : Reply → List FileBytes → TicketKind → Piece → List ℕ → Asked
asked reply memory ticket.Read piece buffer = asked_read reply memory piece buffer
asked reply memory ticket.Probe piece buffer = asked_read reply memory piece buffer
asked reply memory ticket.ReadCheck piece buffer = asked_read reply memory piece buffer
asked reply memory ticket.Write piece buffer = asked_write reply memory piece buffer
