-- Believed: what a pass of the hand-over knows, and what becomes of it when its thread puts or takes, and when passes are split and joined.
use Rattle.std.specs.Prelude.{◌≡◌, ℕ, ◌+◌, ◌-◌, ◌*◌, ◌^◌, ◌==◌, nat_lt, if◌then◌else◌, List, [], ◌∷◌, ◌++◌}
use Rattle.jr_crew_channel.specs.declared.parcel.Parcel.{Parcel}
use Rattle.jr_crew_channel.specs.declared.parcel.PassState.{PassState}

-- a pass that holds so many of so many parts, and what its thread put and took
abbrev pub pass_with : ℕ → ℕ → List Parcel → List Parcel → PassState
pass_with parts of put taken = record { parts = parts; of = of; put = put; taken = taken }

-- into so many parts a pass is cut whose last part is to be split
abbrev pub PARTS : ℕ
PARTS = 2 ^ 64

-- what the first pass begins with: every part, nothing put, nothing taken
abbrev pub first_state : PassState
first_state = pass_with PARTS PARTS [] []

-- the pass holds every part, so there is no other that holds any
abbrev pub IsWhole : PassState → Type 0
IsWhole v = v.parts ≡ v.of

-- its thread put a parcel
abbrev pub with_put : PassState → Parcel → PassState
with_put v parcel = pass_with v.parts v.of (v.put ++ parcel ∷ []) v.taken

-- its thread took a parcel
abbrev pub with_taken : PassState → Parcel → PassState
with_taken v parcel = pass_with v.parts v.of v.put (v.taken ++ parcel ∷ [])

-- the parts of a pass that can give one away: where it holds only one, that one is cut
abbrev pub cut_parts : PassState → ℕ
cut_parts v = if nat_lt 1 v.parts then v.parts else v.parts * PARTS

-- of how many parts these are
abbrev pub cut_of : PassState → ℕ
cut_of v = if nat_lt 1 v.parts then v.of else v.of * PARTS

-- what a pass keeps when another is split off: all but one part, and both its lists
abbrev pub kept_of : PassState → PassState
kept_of v = pass_with (cut_parts v - 1) (cut_of v) v.put v.taken

-- what the new pass has: one part, nothing put, nothing taken
abbrev pub given_of : PassState → PassState
given_of v = pass_with 1 (cut_of v) [] []

-- the parts of two passes as one
abbrev pub joined_parts : PassState → PassState → ℕ
joined_parts v w = if v.of == w.of then v.parts + w.parts else v.parts * w.of + w.parts * v.of

-- of how many parts these are
abbrev pub joined_of_parts : PassState → PassState → ℕ
joined_of_parts v w = if v.of == w.of then v.of else v.of * w.of

-- two passes as one: the lists of the second stand behind those of the first
abbrev pub joined_of : PassState → PassState → PassState
joined_of v w = pass_with (joined_parts v w) (joined_of_parts v w) (v.put ++ w.put) (v.taken ++ w.taken)

-- what is left of a pass that was joined into another
abbrev pub spent_state : PassState
spent_state = pass_with 0 1 [] []
