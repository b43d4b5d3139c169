-- Believed: what one call of an engine does, by what contracts see of the engine before and after it (of this project).
use Rattle.std.specs.Prelude.{ℕ, ◌+◌, ◌≡◌, length, List, Option, Result, is_ok, IsTrue, if◌then◌else◌}
use Rattle.std.specs.Option.{ok_or}
use Rattle.jr_model.specs.declared.replies.Reply.{Reply}
use Rattle.jr_model.specs.Replies.{EngineState, covers, next_reply, reply_to_read, reply_to_write, stored, memory_with}
use Rattle.jr_engines.specs.declared.faults.EngineFault.{EngineFault}
use Rattle.jr_engines.specs.declared.faults.EngineFault.TheVariants as fault

-- so many bytes, or the device failed
abbrev pub answer_of : Option ℕ → Result ℕ EngineFault
answer_of count = ok_or count fault.Device

-- one more call, one more failure where it answered an error, and the same replies as before
pub record Counts (old : EngineState) (answer : Result ℕ EngineFault) (new : EngineState) : Type 0 where
  pub calls : new.calls ≡ old.calls + 1
  pub failures : new.failures ≡ (if is_ok answer then old.failures else old.failures + 1)
  pub known : new.is_known ≡ old.is_known
  pub script : new.script ≡ old.script

-- a read of these bytes by a reply
pub record RepliesToRead (reply : Reply) (bytes before : List ℕ) (answer : Result ℕ EngineFault) (after : List ℕ) : Type 0 where
  pub count : answer ≡ answer_of (reply_to_read reply bytes before).count
  pub buffer : after ≡ (reply_to_read reply bytes before).buffer

-- a read of a range that the memory has is by the reply to this call
pub record Reads (old : EngineState) (file offset : ℕ) (before : List ℕ) (answer : Result ℕ EngineFault) (new : EngineState) (after : List ℕ) : Type 0 where
  pub reply : RepliesToRead (next_reply old) (stored old.memory file offset (length before)) before answer after
  pub memory : new.memory ≡ old.memory

-- a read, where the memory is known and has these bytes
abbrev pub ReadsInside : EngineState → ℕ → ℕ → List ℕ → Result ℕ EngineFault → EngineState → List ℕ → Type 0
ReadsInside old file offset before answer new after =
    IsTrue old.is_known → IsTrue (covers old.memory file offset (length before))
    → Reads old file offset before answer new after

-- a write of a range that the memory has is by the reply to this call
pub record Writes (old : EngineState) (file offset : ℕ) (buffer : List ℕ) (answer : Result ℕ EngineFault) (new : EngineState) : Type 0 where
  pub count : answer ≡ answer_of (reply_to_write (next_reply old) buffer).count
  pub memory : new.memory ≡ memory_with old.memory file offset (reply_to_write (next_reply old) buffer).stored

-- a write, where the memory is known and has these bytes
abbrev pub WritesInside : EngineState → ℕ → ℕ → List ℕ → Result ℕ EngineFault → EngineState → Type 0
WritesInside old file offset buffer answer new =
    IsTrue old.is_known → IsTrue (covers old.memory file offset (length buffer))
    → Writes old file offset buffer answer new
