-- Believed: what the program says, behind its name, where it ends without a report.
use Rattle.std.specs.Prelude.{ℕ, List, codes}
use Rattle.jr_text.specs.FaultTexts.{text_fault_text}
use Rattle.jr_options.specs.FaultTexts.{job_fault_text}
use Rattle.jr_run_faults.specs.FaultTexts.{run_fault_text}
use Rattle.jr_ledger.specs.FaultTexts.{ledger_fault_text}
use Rattle.jr_run_faults.specs.FaultTexts.{trace_fault_text}
use Rattle.jr_cli_words.specs.declared.faults.CliFault.{CliFault}
use Rattle.jr_cli_words.specs.declared.faults.CliFault.TheVariants as fault

abbrev pub fault_text : CliFault → List ℕ
fault_text fault.Words = codes "command line: not UTF-8"
fault_text (fault.Text text) = text_fault_text text
fault_text (fault.Job job) = job_fault_text job
fault_text fault.SeveralFiles = codes "bad blocks of several files"
fault_text fault.BlockSize = codes "command line: bad block size"
fault_text fault.Duration = codes "command line: bad duration"
fault_text fault.SeveralRounds = codes "page of several rounds"
fault_text fault.KeptTraces = codes "command line: --keep-traces without --trace or rounds"
fault_text fault.BlockKind = codes "command line: bad kind of blocks"
fault_text fault.RepeatedGoOn = codes "command line: --go-on with --for or --repeat"
fault_text fault.GoOnFiles = codes "--go-on over several files"
fault_text fault.JobSize = codes "command line: bad size of jobs"
fault_text fault.LedgerRounds = codes "command line: --ledger with --for, --repeat or --go-on"
fault_text fault.LedgerEngine = codes "ledger: the job has no files"
fault_text fault.LedgerJob = codes "ledger: the job cannot be judged"
fault_text fault.AfterRun = codes "command line: --after with words of a run"
fault_text (fault.Ledger ledger) = ledger_fault_text ledger
fault_text fault.Read = codes "cannot read the job file"
fault_text fault.Open = codes "cannot open the files"
fault_text fault.Unadapted = codes "cannot adapt the job file"
fault_text (fault.Run run) = run_fault_text run
fault_text (fault.Trace trace) = trace_fault_text trace
fault_text fault.ReadTrace = codes "cannot read the trace"
fault_text fault.ReadLedger = codes "cannot read the ledger"
fault_text fault.Write = codes "cannot write"
fault_text fault.Memory = codes "out of memory"
