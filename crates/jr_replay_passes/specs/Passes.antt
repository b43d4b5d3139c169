-- Internal: what is kept of a pass beside its draws, and its last write below a number.
use Rattle.std.specs.Prelude.{◌≡◌, ◌<◌, ◌≤◌, ℕ, Bool, false, nat_lt, List, Option, Some, None, filter, slice_get}
use Rattle.jr_model.specs.declared.workloads.Draw.{Draw}
use Rattle.jr_model.specs.Draws.{draws_of_job}
use Rattle.jr_model.specs.Plan.{SubJob}
use Rattle.jr_model.specs.Rounds.{is_write_draw}

-- these are the draws of a clone's pass, and the writes among them
pub record ArePassDraws (job : SubJob) (number : ℕ) (draws writes : List Draw) : Type 0 where
  pub all_draws : draws ≡ draws_of_job job number
  pub all_writes : writes ≡ filter is_write_draw draws

-- of the writes with lower numbers this is the last
pub record IsLastBelow (writes : List Draw) (number : ℕ) (draw : Draw) : Type 0 where
  pub place : ℕ
  pub at : slice_get writes place ≡ Some draw
  pub below : draw.number < number
  pub last : (i : ℕ) (other : Draw) → slice_get writes i ≡ Some other → other.number < number → other.number ≤ draw.number

-- none of them has a lower number
abbrev pub NoneBelow : List Draw → ℕ → Type 0
NoneBelow writes number = (i : ℕ) (other : Draw) → slice_get writes i ≡ Some other → number ≤ other.number

-- there is a draw, with a lower number
abbrev pub is_below : Option Draw → ℕ → Bool
is_below None number = false
is_below (Some draw) number = nat_lt draw.number number
