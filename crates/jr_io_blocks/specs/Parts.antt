-- Believed: what a file whose bytes are known does at a call that may move a part of what was asked for.
use Rattle.std.specs.Prelude.{ℕ, ◌<◌, ◌≤◌, ◌≡◌, Bool, false, List, [], length, take, drop, unwrap_or, Option, None, Some, Result, IfOk}
use Rattle.std.specs.Result.{result_ok}
use Rattle.jr_model.specs.Replies.{placed}

-- what is known of a file: whether no call fails or is interrupted, and each that is given bytes to write takes some; whether its
-- bytes are known, and then they; and the name by which the system opened it, if it did and that is known
pub record FileView : Type 0 where
  pub is_sound : Bool
  pub is_known : Bool
  pub bytes : List ℕ
  pub name : Option (List ℕ)

-- a file that others may change, and of which nothing is known
abbrev pub unknown_view : FileView
unknown_view = record { is_sound = false; is_known = false; bytes = []; name = None }

-- the same of a file that the system opened by this name
abbrev pub named_view : List ℕ → FileView
named_view name = record { is_sound = false; is_known = false; bytes = []; name = Some name }

-- a read of these bytes from offset on: the first n of them stand first in the buffer, and there are some unless none are left
-- or the buffer has no room
pub record GetsPart {E : Type 0} (bytes : List ℕ) (offset : ℕ) (before : List ℕ) (answer : Result ℕ E) (after : List ℕ) : Type 0 where
  pub within : IfOk answer (λ n. n ≤ length (drop offset bytes))
  pub moves : IfOk answer (λ n. 0 < length before → 0 < length (drop offset bytes) → 0 < n)
  pub got : IfOk answer (λ n. take n after ≡ take n (drop offset bytes))

-- how many bytes a call moved: none where it answered an error
abbrev pub moved : {E : Type 0} → Result ℕ E → ℕ
moved answer = unwrap_or (result_ok answer) 0

-- the bytes once a write took as many of the buffer as it answers
abbrev pub after_part : {E : Type 0} → List ℕ → ℕ → List ℕ → Result ℕ E → List ℕ
after_part bytes offset buffer answer = placed bytes offset (take (moved answer) buffer)
