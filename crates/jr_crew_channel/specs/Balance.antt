-- Claimed: the rule of the hand-over, which holds at every step, of what the channel holds and of what all passes know.
use Rattle.std.specs.Prelude.{List, ◌++◌, flat_map}
use Rattle.std.specs.List.Sorted.{IsPermutation}
use Rattle.jr_crew_channel.specs.declared.parcel.Parcel.{Parcel}
use Rattle.jr_crew_channel.specs.declared.parcel.PassState.{PassState}
use Rattle.jr_crew_channel.specs.Shares.{IsShared}

-- what all threads put
abbrev pub all_put : List PassState → List Parcel
all_put views = flat_map (λ v. v.put) views

-- what all threads took
abbrev pub all_taken : List PassState → List Parcel
all_taken views = flat_map (λ v. v.taken) views

-- what was put is, in some order, what was taken and what the channel holds
pub record IsBalanced (items : List Parcel) (views : List PassState) : Type 0 where
  pub parcels : IsPermutation (all_put views) (all_taken views ++ items)
  pub parts : IsShared views
