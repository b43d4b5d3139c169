-- Believed: what a call on a file does that goes on until all bytes are moved, the file ends, or the system refuses.
use Rattle.std.specs.Prelude.{ℕ, ◌≤◌, ◌≡◌, min, List, length, take, drop, Result, IfOk}
use Rattle.jr_model.specs.Replies.{placed}
use Rattle.jr_engines.specs.declared.faults.EngineFault.{EngineFault}

-- a read of these bytes from offset on into a buffer: as many as there are and as fit, and they stand first in it
pub record GetsAll (bytes : List ℕ) (offset : ℕ) (before : List ℕ) (answer : Result ℕ EngineFault) (after : List ℕ) : Type 0 where
  pub count : IfOk answer (λ n. n ≡ min (length before) (length (drop offset bytes)))
  pub got : IfOk answer (λ n. take n after ≡ take n (drop offset bytes))

-- a write of a buffer over these bytes from offset on: as many as it answers stand there, or before an error some, and all
-- other bytes are as they were
pub record Stores (bytes : List ℕ) (offset : ℕ) (buffer : List ℕ) (answer : Result ℕ EngineFault) (after : List ℕ) : Type 0 where
  pub count : ℕ
  pub most : count ≤ length buffer
  pub answered : IfOk answer (λ n. n ≡ count)
  pub stored : after ≡ placed bytes offset (take count buffer)
