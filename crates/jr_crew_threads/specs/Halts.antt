-- Believed: why a run that had begun was ended before its time (of this project).
use Rattle.std.specs.Prelude.{Option, Some, None}
use Rattle.jr_model.specs.declared.steps.DeskFault.{DeskFault}
use Rattle.jr_model.specs.declared.steps.DeskFault.TheVariants as desk
use Rattle.jr_run_faults.specs.declared.runs.RunFault.{RunFault}
use Rattle.jr_run_faults.specs.declared.runs.RunFault.TheVariants as run
use Rattle.jr_crew_threads.specs.declared.halts.Halt.{Halt}
use Rattle.jr_crew_threads.specs.declared.halts.Halt.TheVariants as halt

-- what the run answers
abbrev pub fault_of : Halt → RunFault
fault_of halt.Memory = run.Memory
fault_of halt.Books = run.Books

-- a desk that refuses for another cause than memory holds other things than was done
abbrev pub halt_by : DeskFault → Halt
halt_by desk.Memory = halt.Memory
halt_by desk.Stranger = halt.Books
halt_by desk.Twice = halt.Books
halt_by desk.WrongKind = halt.Books
halt_by desk.Stopped = halt.Books

-- the first cause stays, but want of memory comes before others
abbrev pub first_cause : Halt → Option Halt → Halt
first_cause halt.Memory before = halt.Memory
first_cause halt.Books None = halt.Books
first_cause halt.Books (Some first) = first
