-- Believed: the exit status of the program where it ends without a run: 0 where help or the version was asked for, 2 where what was asked
-- for is refused, 3 where memory, a file or a thread was wanting.
use Rattle.std.specs.Prelude.{ℕ}
use Rattle.clap.specs.declared.error.kind.ErrorKind.{ErrorKind}
use Rattle.clap.specs.declared.error.kind.ErrorKind.TheVariants as kind
use Rattle.jr_text.specs.declared.faults.TextFault.{TextFault}
use Rattle.jr_text.specs.declared.faults.TextFault.TheVariants as text
use Rattle.jr_job_options.specs.declared.faults.JobFault.{JobFault}
use Rattle.jr_job_options.specs.declared.faults.JobFault.TheVariants as job
use Rattle.jr_run_faults.specs.declared.traces.TraceFault.{TraceFault}
use Rattle.jr_run_faults.specs.declared.traces.TraceFault.TheVariants as trace
use Rattle.jr_ledger.specs.declared.faults.LedgerFault.{LedgerFault}
use Rattle.jr_ledger.specs.declared.faults.LedgerFault.TheVariants as ledger
use Rattle.jr_cli_words.specs.declared.faults.CliFault.{CliFault}
use Rattle.jr_cli_words.specs.declared.faults.CliFault.TheVariants as fault

-- of a faulty job text and of faulty options
abbrev pub status_of_text : TextFault → ℕ
status_of_text text.TooLong = 2
status_of_text text.NotUtf8 = 2
status_of_text (text.OpenBracket line) = 2
status_of_text (text.EmptyName line) = 2
status_of_text (text.Outside line) = 2
status_of_text text.Memory = 3

abbrev pub status_of_job : JobFault → ℕ
status_of_job job.NoJob = 2
status_of_job job.NoSection = 2
status_of_job (job.Unknown line) = 2
status_of_job (job.BadValue line) = 2
status_of_job (job.MissingSize line) = 2
status_of_job (job.BadBlock line) = 2
status_of_job (job.BadSplit line) = 2
status_of_job (job.NoPattern line) = 2
status_of_job job.MixedEngines = 2
status_of_job (job.SeveralFiles line) = 2
status_of_job (job.Limit bound) = 2
status_of_job job.Memory = 3

-- of a faulty trace
abbrev pub status_of_trace : TraceFault → ℕ
status_of_trace (trace.Line line) = 2
status_of_trace (trace.Illegal line) = 2
status_of_trace trace.Unfinished = 2
status_of_trace trace.Memory = 3

-- of a faulty ledger
abbrev pub status_of_ledger : LedgerFault → ℕ
status_of_ledger (ledger.Line line) = 2
status_of_ledger ledger.OtherJob = 2
status_of_ledger ledger.Memory = 3

-- of a fault that ends the program
abbrev pub status_of_fault : CliFault → ℕ
status_of_fault fault.Words = 2
status_of_fault (fault.Text text) = status_of_text text
status_of_fault (fault.Job job) = status_of_job job
status_of_fault fault.SeveralFiles = 2
status_of_fault fault.BlockSize = 2
status_of_fault fault.Duration = 2
status_of_fault fault.SeveralRounds = 2
status_of_fault fault.KeptTraces = 2
status_of_fault fault.BlockKind = 2
status_of_fault fault.RepeatedGoOn = 2
status_of_fault fault.GoOnFiles = 2
status_of_fault fault.JobSize = 2
status_of_fault fault.LedgerRounds = 2
status_of_fault fault.LedgerEngine = 2
status_of_fault fault.LedgerJob = 2
status_of_fault fault.AfterRun = 2
status_of_fault (fault.Ledger faulty) = status_of_ledger faulty
status_of_fault fault.Read = 3
status_of_fault fault.Open = 3
status_of_fault fault.Unadapted = 3
status_of_fault (fault.Run run) = 3
status_of_fault (fault.Trace trace) = status_of_trace trace
status_of_fault fault.ReadTrace = 3
status_of_fault fault.ReadLedger = 3
status_of_fault fault.Write = 3
status_of_fault fault.Memory = 3

-- of words that ask for help, or that are refused
abbrev pub status_of_words : ErrorKind → ℕ
status_of_words kind.DisplayHelp = 0
status_of_words kind.DisplayVersion = 0
status_of_words kind.OutOfMemory = 3
status_of_words other = 2
