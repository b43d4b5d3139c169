-- Believed: what the faults print.
use Rattle.std.specs.Prelude.{ℕ, List, codes}
use Rattle.jr_model.specs.declared.memory.Memory.{Memory}
use Rattle.jr_model.specs.declared.steps.DeskFault.{DeskFault}
use Rattle.jr_model.specs.declared.steps.DeskFault.TheVariants as fault

abbrev pub memory_text : Memory → List ℕ
memory_text e = codes "out of memory"

abbrev pub desk_fault_text : DeskFault → List ℕ
desk_fault_text fault.Memory = codes "out of memory"
desk_fault_text fault.Stranger = codes "not started here"
desk_fault_text fault.Twice = codes "a second time"
desk_fault_text fault.WrongKind = codes "not a check to judge"
desk_fault_text fault.Stopped = codes "stopped"
