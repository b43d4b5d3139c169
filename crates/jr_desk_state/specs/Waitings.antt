-- Internal: which clones are known to wait for an end of their own, by a bit for each.
use Rattle.std.specs.Prelude.{◌≡◌, ◌<◌, ◌*◌, ◌^◌, ◌/◌, ◌%◌, ◌==◌, ◌||◌, not, ℕ, Bool, true, List, length, slice_index_or, Some}
use Rattle.std.specs.Int.{bit_at}
use Rattle.jr_model.specs.declared.events.Event.{Event}
use Rattle.jr_model.specs.Legal.{has_room, is_at_rest, is_halted}
use Rattle.jr_model.specs.Plan.{Plan, SubJob, clone_of}
use Rattle.jr_desk_state.specs.declared.waiting.Waiting.{Waiting}

-- the bit of a clone, in words of 64 bits; where there is no word it is clear
abbrev pub is_marked : List ℕ → ℕ → Bool
is_marked words c = bit_at (slice_index_or words (c / 64) 0) (c % 64) == 1

-- the clone is halted, or has as much in flight as it may
abbrev pub is_blocked : List Event → SubJob → Bool
is_blocked history job = is_halted history job || not (has_room history job)

-- or it is at rest: so it starts nothing before something of its own ends, if anything flies
abbrev pub waits_for_own : List Event → SubJob → Bool
waits_for_own history job = is_blocked history job || is_at_rest history job

-- each clone that is marked waits so, and the bits are few
pub record AreWaiting (plan : Plan) (history : List Event) (waiting : Waiting) : Type 0 where
  pub few : 64 * length waiting.words.items < 2 ^ 64
  pub each : (c : ℕ) (job : SubJob) → clone_of plan c ≡ Some job → is_marked waiting.words.items c ≡ true
      → waits_for_own history job ≡ true
