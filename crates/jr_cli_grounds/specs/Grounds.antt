-- Believed: what carries out the I/Os of a run: what the plan's kind of engine says, and an engine over it (of this project).
use Rattle.std.specs.Prelude.{◌≡◌, ℕ}
use Rattle.jr_model.specs.declared.workloads.EngineKind.{EngineKind}
use Rattle.jr_model.specs.declared.workloads.EngineKind.TheVariants as kind
use Rattle.jr_model.specs.Plan.{Plan}
use Rattle.jr_model.specs.Replies.{fresh_memory}
use Rattle.jr_io_files.specs.Engines.{IsFresh, opened_views}
use Rattle.jr_cli_grounds.specs.declared.grounds.Ground.{Ground}
use Rattle.jr_cli_grounds.specs.declared.grounds.Ground.TheVariants as ground
use Rattle.jr_cli_grounds.specs.declared.grounds.OneEngine.{OneEngine}
use Rattle.jr_cli_grounds.specs.declared.grounds.OneEngine.TheVariants as one

-- over files these are open, each by its name, for a plan whose engine is of files; else there is nothing to open
abbrev pub IsGroundOf : Plan → Ground → Type 0
IsGroundOf plan (ground.Files taken) = (plan.engine ≡ kind.File) × (taken.files.files ≡ opened_views plan.files)
IsGroundOf plan ground.Memory = plan.engine ≡ kind.Memory
IsGroundOf plan ground.Nothing = plan.engine ≡ kind.Null

-- an engine for a run of the plan over this that has had no call: over the files, over a memory of zeros for those of the plan, or over nothing
abbrev pub IsEngineOf : Plan → Ground → OneEngine → Type 0
IsEngineOf plan (ground.Files taken) (one.Files engine) = IsFresh engine taken.files.files
IsEngineOf plan (ground.Files taken) (one.Memory engine) = ⊥
IsEngineOf plan (ground.Files taken) (one.Nothing engine) = ⊥
IsEngineOf plan ground.Memory (one.Files engine) = ⊥
IsEngineOf plan ground.Memory (one.Memory engine) = engine ≡ record { calls = 0; failures = 0; memory = fresh_memory plan.files }
IsEngineOf plan ground.Memory (one.Nothing engine) = ⊥
IsEngineOf plan ground.Nothing (one.Files engine) = ⊥
IsEngineOf plan ground.Nothing (one.Memory engine) = ⊥
IsEngineOf plan ground.Nothing (one.Nothing engine) = engine ≡ record { calls = 0 }
