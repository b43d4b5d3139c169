-- Believed: reads and writes of a memory of files (of this project).
use Rattle.std.specs.Prelude.{ℕ, Bool, ◌-◌, min, nat_le, slice_get, List, Option, Some, None, Result, Ok, Err, OnOk, OnErr, ◌≡◌, length, if◌then◌else◌}
use Rattle.jr_model.specs.Replies.{FileBytes, covers, stored, overlaid}
use Rattle.jr_engines.specs.declared.faults.EngineFault.{EngineFault}
use Rattle.jr_engines.specs.declared.faults.EngineFault.TheVariants as fault

-- how many of n bytes from offset on a read gets: none below low, and those up to high
abbrev pub count_read : FileBytes → ℕ → ℕ → Result ℕ EngineFault
count_read file offset n = if nat_le file.low offset then Ok (min n (file.high - offset)) else Err fault.Outside

-- what a read of n bytes of the memory answers
abbrev pub read_answer : List FileBytes → ℕ → ℕ → ℕ → Result ℕ EngineFault
read_answer memory file offset n = read_in (slice_get memory file)
  where
    read_in : Option FileBytes → Result ℕ EngineFault
    read_in None = Err fault.Outside
    read_in (Some bytes) = count_read bytes offset n

-- a write takes all of n bytes where each has a place, else none
abbrev pub all_or_outside : Bool → ℕ → Result ℕ EngineFault
all_or_outside has_places n = if has_places then Ok n else Err fault.Outside

-- what a write of n bytes to the memory answers
abbrev pub write_answer : List FileBytes → ℕ → ℕ → ℕ → Result ℕ EngineFault
write_answer memory file offset n = all_or_outside (covers memory file offset n) n

-- the bytes that a read got stand first in its buffer
pub record Gets (bytes before : List ℕ) (answer : Result ℕ EngineFault) (after : List ℕ) : Type 0 where
  pub ok : OnOk answer (after ≡ overlaid bytes before)
  pub err : OnErr answer (after ≡ before)

-- a read of the memory into this buffer
pub record IsMemoryRead (memory : List FileBytes) (file offset : ℕ) (before : List ℕ) (answer : Result ℕ EngineFault) (after : List ℕ) : Type 0 where
  pub count : answer ≡ read_answer memory file offset (length before)
  pub bytes : Gets (stored memory file offset (length before)) before answer after
