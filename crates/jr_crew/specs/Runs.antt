-- Believed: when the calls of an engine are what one worker completed (of this project).
use Rattle.std.specs.Prelude.{◌≡◌, ℕ, true, List, [], IsTrue}
use Rattle.jr_model.specs.declared.events.Event.{Event}
use Rattle.jr_model.specs.Plan.{Plan}
use Rattle.jr_model.specs.Replies.{EngineState, fresh_memory}
use Rattle.jr_model.specs.Tied.{KnownEngine, IsTied}
use Rattle.jr_laws_bytes.specs.Memory.{CoversFiles}

-- the engine as far as it is known, where its calls gave these bytes
abbrev pub known_engine : EngineState → List (ℕ × List ℕ) → KnownEngine
known_engine engine read_back =
    record { memory = engine.memory; script = engine.script; calls = engine.calls; read_back = read_back }

-- the engine's calls are what worker 0, which judges its own checks, completed
abbrev pub IsTiedRun : Plan → List Event → EngineState → EngineState → Type 0
IsTiedRun plan history before after =
    (read_back : List (ℕ × List ℕ)) × IsTied plan true history 0 (known_engine before []) (known_engine after read_back)

-- the engine's memory is known and has all bytes of the plan's files
pub record IsCovering (plan : Plan) (engine : EngineState) : Type 0 where
  pub known : IsTrue engine.is_known
  pub covers : CoversFiles plan engine.memory

-- the engine carries out each call, and its memory is that of the plan's files before anything was written
pub record IsFresh (plan : Plan) (engine : EngineState) : Type 0 where
  pub known : IsTrue engine.is_known
  pub memory : engine.memory ≡ fresh_memory plan.files
  pub script : engine.script ≡ []
