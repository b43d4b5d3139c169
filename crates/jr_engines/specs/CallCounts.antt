-- Believed: what contracts see of the count of an engine's calls (of this project).
use Rattle.std.specs.Prelude.{ℕ, ◌+◌, ◌≡◌, Result, is_ok, if◌then◌else◌}
use Rattle.jr_engines.specs.declared.faults.EngineFault.{EngineFault}

-- the calls so far, and how many of them failed
pub record CallCounts : Type 0 where
  pub calls : ℕ
  pub failures : ℕ

-- one more call that was answered so
pub record Notes (old : CallCounts) (answer : Result ℕ EngineFault) (new : CallCounts) : Type 0 where
  pub calls : new.calls ≡ old.calls + 1
  pub failures : new.failures ≡ (if is_ok answer then old.failures else old.failures + 1)
