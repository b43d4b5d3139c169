-- Believed: what each round of a repeated run runs: the plan, with other seeds (of this project).
use Rattle.std.specs.Prelude.{ℕ, ◌*◌}
use Rattle.jr_model.specs.Plan.{Plan}
use Rattle.jr_plan.specs.Seeds.{reseeded}
use Rattle.jr_rounds.specs.declared.seeds.TheConstants.{SEED_STEP}

-- how far the seeds of a round are from those of the plan
abbrev pub seed_offset : ℕ → ℕ
seed_offset round = round * SEED_STEP

-- the plan of a round
abbrev pub plan_of_round : Plan → ℕ → Plan
plan_of_round plan round = reseeded plan (seed_offset round)
