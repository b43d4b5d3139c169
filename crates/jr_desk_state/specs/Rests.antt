-- Internal: which clones needn't be looked at again: one that is at rest stays so.
use Rattle.std.specs.Prelude.{◌≡◌, ◌<◌, ◌≤◌, ℕ, true, List, Some}
use Rattle.jr_model.specs.declared.events.Event.{Event}
use Rattle.jr_model.specs.Legal.{is_at_rest}
use Rattle.jr_model.specs.Plan.{Plan, SubJob, clone_of}
use Rattle.jr_desk_state.specs.declared.resting.Rested.{Rested}

-- the clones before the leading one are at rest, and so are those of earlier phases than that of the earliest; none is of a later phase
-- than the last
pub record AreRested (plan : Plan) (history : List Event) (rested : Rested) : Type 0 where
  pub leading : (c : ℕ) (job : SubJob) → clone_of plan c ≡ Some job → c < rested.leading → is_at_rest history job ≡ true
  pub earlier : (c : ℕ) (job first : SubJob) → clone_of plan c ≡ Some job → clone_of plan rested.earliest ≡ Some first
      → job.phase < first.phase → is_at_rest history job ≡ true
  pub last : (c : ℕ) (job : SubJob) → clone_of plan c ≡ Some job → job.phase ≤ rested.last_phase
