-- Believed: whether a clone of a plan declines that its overlapping I/O is serialised.
use Rattle.std.specs.Prelude.{Bool, not}
use Rattle.std.specs.List.{list_any}
use Rattle.jr_model.specs.Plan.{Plan, SubJob}

-- no clone declines that its I/Os wait for those that they overlap
abbrev pub none_declines : Plan → Bool
none_declines plan = not (list_any (λ (job : SubJob). job.declines) plan.clones)
