-- Believed: a plan whose clones draw from other seeds (of this project).
use Rattle.std.specs.Prelude.{ℕ, ◌+◌, ◌%◌, ◌^◌, map}
use Rattle.jr_model.specs.Plan.{Plan, SubJob}

-- the same clone with a seed that is so much further on, modulo 2^64
abbrev pub moved_seed : ℕ → SubJob → SubJob
moved_seed by job = record job { seed = (job.seed + by) % 2 ^ 64 }

-- the same plan, the seed of each clone so much further on
abbrev pub reseeded : Plan → ℕ → Plan
reseeded plan by = record plan { clones = map (moved_seed by) plan.clones }
