-- Believed: why a run gave no desk (of this project).
use Rattle.std.specs.Prelude.{ℕ, ◌<◌}
use Rattle.jr_model.specs.declared.steps.DeskFault.{DeskFault}
use Rattle.jr_model.specs.declared.steps.DeskFault.TheVariants as desk
use Rattle.jr_run_faults.specs.declared.runs.RunFault.{RunFault}
use Rattle.jr_run_faults.specs.declared.runs.RunFault.TheVariants as run

-- a desk that refuses for another cause than memory holds other things than its worker did
abbrev pub fault_by : DeskFault → RunFault
fault_by desk.Memory = run.Memory
fault_by desk.Stranger = run.Books
fault_by desk.Twice = run.Books
fault_by desk.WrongKind = run.Books
fault_by desk.Stopped = run.Books

-- why the threads of a run brought nothing back: memory was wanting, or one of so many verifiers couldn't be started
abbrev pub IsUnmanned : ℕ → RunFault → Type 0
IsUnmanned verifiers run.Memory = Unit {0}
IsUnmanned verifiers run.Thread = 0 < verifiers
IsUnmanned verifiers run.NoEngine = ⊥
IsUnmanned verifiers run.Books = ⊥

-- why a run that has an engine gave no desk: for that, or what was done isn't what the desk holds
abbrev pub IsRefusal : ℕ → RunFault → Type 0
IsRefusal verifiers run.Memory = Unit {0}
IsRefusal verifiers run.Thread = 0 < verifiers
IsRefusal verifiers run.NoEngine = ⊥
IsRefusal verifiers run.Books = Unit {0}
