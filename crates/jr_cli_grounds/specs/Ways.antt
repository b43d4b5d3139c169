-- Believed: who carries out the I/Os of a run (of this project).
use Rattle.std.specs.Prelude.{ℕ, ◌==◌, Bool, true, false, not, ◌&&◌, ◌||◌}
use Rattle.jr_model.specs.declared.workloads.EngineKind.{EngineKind}
use Rattle.jr_model.specs.declared.workloads.EngineKind.TheVariants as engine
use Rattle.jr_model.specs.Plan.{Plan}

abbrev pub is_memory : EngineKind → Bool
is_memory engine.File = false
is_memory engine.Memory = true
is_memory engine.Null = false

-- one of so many workers does all, and judges the checks itself
abbrev pub is_alone : ℕ → ℕ → Bool
is_alone workers verifiers = (workers == 1) && (verifiers == 0)

-- so many workers share a memory in a run of the plan
abbrev pub shares_memory : Plan → ℕ → Bool
shares_memory plan workers = is_memory plan.engine && not (is_alone workers plan.verifiers)

-- one of so many workers does all in a run of the plan where no memory is shared
abbrev pub has_one_worker : Plan → ℕ → Bool
has_one_worker plan workers = is_memory plan.engine || is_alone workers plan.verifiers
