-- Internal: the parts of the hand-over that threads have, as they are given to them and taken in again (of this project).
use Rattle.std.specs.Prelude.{◌≡◌, ℕ, ◌+◌, List, [], ◌++◌, slice_get, Some}
use Rattle.jr_crew_channel.specs.declared.parcel.Parcel.{Parcel}
use Rattle.jr_crew_channel.specs.declared.parcel.PassState.{PassState}
use Rattle.jr_crew_channel.specs.PassStates.{PARTS, pass_with}

-- the part of the whole that a thread begins with: it has put nothing, and taken nothing
abbrev pub one_part : PassState
one_part = pass_with 1 PARTS [] []

-- so many parts fewer, and nothing else has changed
pub record IsLess (n : ℕ) (old new : PassState) : Type 0 where
  pub parts : new.parts + n ≡ old.parts
  pub of : new.of ≡ old.of
  pub put : new.put ≡ old.put
  pub taken : new.taken ≡ old.taken

-- so many parts more, with what their threads put and took
pub record IsMore (n : ℕ) (more_put more_taken : List Parcel) (old new : PassState) : Type 0 where
  pub parts : new.parts ≡ old.parts + n
  pub of : new.of ≡ old.of
  pub put : new.put ≡ old.put ++ more_put
  pub taken : new.taken ≡ old.taken ++ more_taken

-- a thread that took, and put nothing
pub record IsTaker (old new : PassState) : Type 0 where
  pub parts : new.parts ≡ old.parts
  pub of : new.of ≡ old.of
  pub put : new.put ≡ old.put
  pub more : List Parcel
  pub taken : new.taken ≡ old.taken ++ more

-- one part of the whole, of a thread that took nothing
pub record IsPutter (pass : PassState) : Type 0 where
  pub parts : pass.parts ≡ 1
  pub of : pass.of ≡ PARTS
  pub taken : pass.taken ≡ []

-- numbers that count up from this one
abbrev pub IsCountedFrom : ℕ → List ℕ → Type 0
IsCountedFrom first numbers = (i n : ℕ) → slice_get numbers i ≡ Some n → n ≡ first + i
