-- Believed: why the check of a trace prints no totals (of this project).
use Rattle.std.specs.Prelude.{List, Result, IsOk}
use Rattle.jr_model.specs.declared.totals.Totals.{Totals}
use Rattle.jr_run_faults.specs.declared.traces.TraceFault.{TraceFault}
use Rattle.jr_replay_traces.specs.TraceChecks.{IsRefusal}
use Rattle.jr_cli_words.specs.declared.faults.CliFault.{CliFault}
use Rattle.jr_cli_words.specs.declared.faults.CliFault.TheVariants as fault

-- this is what was found wrong with the trace; or nothing was, and memory was wanting or writing failed
abbrev pub IsCheckFault : Result (List Totals) TraceFault → CliFault → Type 0
IsCheckFault found (fault.Trace wrong) = IsRefusal wrong found
IsCheckFault found fault.Memory = IsOk found
IsCheckFault found fault.Write = IsOk found
IsCheckFault found other = ⊥
