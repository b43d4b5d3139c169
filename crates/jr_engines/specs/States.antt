-- Believed: what contracts see of the engines of this crate (of this project).
use Rattle.std.specs.Prelude.{ℕ, true, false, List, [], ◌++◌, Option, option_to_list}
use Rattle.jr_model.specs.declared.replies.Reply.{Reply}
use Rattle.jr_model.specs.Replies.{EngineState, FileBytes}
use Rattle.jr_engines.specs.CallCounts.{CallCounts}

-- a memory engine: its calls so far, how many of them failed, and its files
pub record MemoryState : Type 0 where
  pub calls : ℕ
  pub failures : ℕ
  pub memory : List FileBytes

-- its memory is known, and each call is carried out
abbrev pub memory_state : MemoryState → EngineState
memory_state engine =
    record { calls = engine.calls; failures = engine.failures; is_known = true; memory = engine.memory; script = [] }

-- a scripted engine: its calls so far, how many of them failed, its files, the call and reply that were set last, and the
-- script for the others
pub record ScriptedState : Type 0 where
  pub calls : ℕ
  pub failures : ℕ
  pub memory : List FileBytes
  pub set : Option (ℕ × Reply)
  pub script : List (ℕ × Reply)

-- its memory is known, and a reply that was set counts in place of the script's
abbrev pub scripted_state : ScriptedState → EngineState
scripted_state engine = record {
  calls = engine.calls;
  failures = engine.failures;
  is_known = true;
  memory = engine.memory;
  script = option_to_list engine.set ++ engine.script;
}

-- a null engine: its calls so far; none fails
pub record NullState : Type 0 where
  pub calls : ℕ

-- it has no memory to speak of
abbrev pub null_state : NullState → EngineState
null_state engine = record { calls = engine.calls; failures = 0; is_known = false; memory = []; script = [] }

-- an engine whose bytes others may change too: its calls so far, and how many of them failed, are all that is known
abbrev pub counted_state : CallCounts → EngineState
counted_state engine =
    record { calls = engine.calls; failures = engine.failures; is_known = false; memory = []; script = [] }
