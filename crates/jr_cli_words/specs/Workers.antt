-- Believed: how many workers a run has (of this project).
use Rattle.std.specs.Prelude.{ℕ, min, List, Option, sum_by, unwrap_or}
use Rattle.jr_model.specs.Plan.{Plan, SubJob}

-- how many I/Os these clones may have in flight, all together
abbrev pub depth_of : List SubJob → ℕ
depth_of clones = sum_by (λ (job : SubJob). job.depth) clones

-- as many as were asked for; else one for each I/O that may be in flight, up to 16
abbrev pub workers_of : Plan → Option ℕ → ℕ
workers_of plan asked = unwrap_or asked (min 16 (depth_of plan.clones))
