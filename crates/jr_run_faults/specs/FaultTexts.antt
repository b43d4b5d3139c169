-- Believed: what the faults print.
use Rattle.std.specs.Prelude.{ℕ, List, ◌++◌, codes, decimal}
use Rattle.jr_run_faults.specs.declared.runs.RunFault.{RunFault}
use Rattle.jr_run_faults.specs.declared.runs.RunFault.TheVariants as run
use Rattle.jr_run_faults.specs.declared.traces.TraceFault.{TraceFault}
use Rattle.jr_run_faults.specs.declared.traces.TraceFault.TheVariants as trace

abbrev pub run_fault_text : RunFault → List ℕ
run_fault_text run.Memory = codes "out of memory"
run_fault_text run.NoEngine = codes "no engine"
run_fault_text run.Thread = codes "cannot start a thread"
run_fault_text run.Books = codes "books differ"

-- what is wrong at a line
abbrev pub at_line : ℕ → List ℕ → List ℕ
at_line line what = codes "trace: line " ++ decimal line ++ what

abbrev pub trace_fault_text : TraceFault → List ℕ
trace_fault_text (trace.Line line) = at_line line (codes ": not a trace line")
trace_fault_text (trace.Illegal line) = at_line line (codes ": not legal here")
trace_fault_text trace.Unfinished = codes "trace: not complete"
trace_fault_text trace.Memory = codes "out of memory"
