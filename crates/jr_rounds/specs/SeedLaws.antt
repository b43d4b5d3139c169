-- Claimed: the rounds of a repeated run differ in their seeds alone, and no clone draws from one seed twice (of this project).
use Rattle.std.specs.Prelude.{◌≡◌, ℕ, ◌^◌, ◌<◌, map, All, Some}
use Rattle.jr_model.specs.declared.limits.TheConstants.{MOST_PASSES}
use Rattle.jr_model.specs.Plan.{Plan, SubJob, clone_of}
use Rattle.jr_model.specs.Words.{pass_seed}
use Rattle.jr_rounds.specs.Seeds.{plan_of_round}

-- a clone but for its seed
abbrev pub unseeded : SubJob → SubJob
unseeded job = record job { seed = 0 }

-- two plans are the same but for the seeds of their clones
abbrev pub unseeded_plan : Plan → Plan
unseeded_plan plan = record plan { clones = map unseeded plan.clones }

abbrev pub DifferInSeeds : Type 0
DifferInSeeds = (plan : Plan) (round : ℕ) → unseeded_plan (plan_of_round plan round) ≡ unseeded_plan plan

-- round 0 runs the plan itself, whose seeds have 64 bits
abbrev pub FirstRoundIsThePlan : Type 0
FirstRoundIsThePlan = (plan : Plan) → All (λ (job : SubJob). job.seed < 2 ^ 64) plan.clones → plan_of_round plan 0 ≡ plan

-- where clone c is seeded by one number in two passes of two rounds, these are one pass of one round
abbrev pub NoSeedTwice : Type 0
NoSeedTwice =
    (plan : Plan) (c round other pass later : ℕ) (job again : SubJob)
    → round < 2 ^ 32
    → other < 2 ^ 32
    → pass < MOST_PASSES
    → later < MOST_PASSES
    → clone_of (plan_of_round plan round) c ≡ Some job
    → clone_of (plan_of_round plan other) c ≡ Some again
    → pass_seed job pass ≡ pass_seed again later
    → (round ≡ other) × (pass ≡ later)
