-- Internal: what is kept of a legal run beside its history: its indexes, and of each clone the pass that was asked for last.
use Rattle.std.specs.Prelude.{◌≡◌, ℕ, ◌==◌, nat_eq, true, Option, Some, None, if◌then◌else◌}
use Rattle.std.specs.HashMap.{get}
use Rattle.jr_model.specs.Legal.{is_legal}
use Rattle.jr_model.specs.Plan.{Plan, clone_of}
use Rattle.jr_model.specs.PlanFacts.{IsPlanned}
use Rattle.jr_model.specs.Rounds.{Pass, pass_of}
use Rattle.jr_replay.specs.declared.courses.Course.{Course}
use Rattle.jr_replay.specs.Indexes.{AreIndexes}

-- the pass, where it has this number
abbrev pub numbered : ℕ → Option Pass → Option Pass
numbered number None = None
numbered number (Some pass) = if pass.number == number then Some pass else None

-- a pass of the clone of this number
pub record IsPassOf (plan : Plan) (clone : ℕ) (pass : Pass) : Type 0 where
  pub there : clone_of plan clone ≡ Some pass.job
  pub own : pass ≡ pass_of pass.job pass.number

-- the history is legal, the indexes are its own, and what is kept of a clone is a pass of it
pub record IsCourse (plan : Plan) (course : Course) : Type 0 where
  pub planned : IsPlanned plan
  pub legal : is_legal plan course.history ≡ true
  pub indexed : AreIndexes plan course.history course.indexes
  pub kept : (clone : ℕ) (pass : Pass) → get nat_eq course.passes clone ≡ Some pass → IsPassOf plan clone pass
