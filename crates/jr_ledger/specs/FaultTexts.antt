-- Believed: what the faults print.
use Rattle.std.specs.Prelude.{ℕ, List, ◌++◌, codes, decimal}
use Rattle.jr_ledger.specs.declared.faults.LedgerFault.{LedgerFault}
use Rattle.jr_ledger.specs.declared.faults.LedgerFault.TheVariants.{Line, OtherJob, Memory}

abbrev pub ledger_fault_text : LedgerFault → List ℕ
ledger_fault_text (Line line) = codes "ledger: line " ++ decimal line ++ codes ": not a ledger line"
ledger_fault_text OtherJob = codes "ledger: of another job"
ledger_fault_text Memory = codes "out of memory"
