-- Believed: what a pass knows, and that it was made by this hand-over's `new` or `split`.
use Rattle.std.specs.Prelude.{ℕ, ◌<◌}
use Rattle.crossbeam_channel.specs.Claims.{view, IsSeatAt}
use Rattle.crossbeam_channel.specs.Ends.{sends_on, ruled_capacity}
use Rattle.jr_crew_channel.specs.declared.parcel.PassState.{PassState}
use Rattle.jr_crew_channel.specs.declared.handoff.Handoff.{Handoff}
use Rattle.jr_crew_channel.specs.declared.handoff.Pass.{Pass}

abbrev pub pass_state : Pass → PassState
pass_state p = view p.seat

-- how many parcels the channel has room for
abbrev pub room_of : Handoff → ℕ
room_of h = ruled_capacity (sends_on h.sender)

-- a pass of this hand-over, with some part
pub record IsPassOf (h : Handoff) (p : Pass) : Type 0 where
  pub seat : IsSeatAt (sends_on h.sender) p.seat
  pub parts : 0 < (pass_state p).parts
  pub of : 0 < (pass_state p).of
