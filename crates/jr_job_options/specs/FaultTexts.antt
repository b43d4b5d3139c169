-- Believed: what the faults print.
use Rattle.std.specs.Prelude.{ℕ, List, ◌++◌, codes, decimal}
use Rattle.jr_job_options.specs.declared.faults.JobFault.{JobFault}
use Rattle.jr_job_options.specs.declared.faults.JobFault.TheVariants as fault
pub use Rattle.jr_plan.specs.FaultTexts.{bound_text}

-- what is wrong with an option line, or with the job whose section a line opens
abbrev pub at_line : ℕ → List ℕ → List ℕ
at_line line what = codes "job file: line " ++ decimal line ++ what

abbrev pub at_job : ℕ → List ℕ → List ℕ
at_job line what = codes "job at line " ++ decimal line ++ what

abbrev pub job_fault_text : JobFault → List ℕ
job_fault_text fault.NoJob = codes "job file: no job"
job_fault_text fault.NoSection = codes "job file: no such section"
job_fault_text (fault.Unknown line) = at_line line (codes ": option out of scope")
job_fault_text (fault.BadValue line) = at_line line (codes ": bad value")
job_fault_text (fault.MissingSize line) = at_job line (codes ": no size")
job_fault_text (fault.BadBlock line) = at_job line (codes ": bad block size or place")
job_fault_text (fault.BadSplit line) = at_line line (codes ": bad split")
job_fault_text (fault.NoPattern line) = at_job line (codes ": no verify_pattern")
job_fault_text fault.MixedEngines = codes "job file: several engine kinds"
job_fault_text (fault.SeveralFiles line) = at_line line (codes ": several files")
job_fault_text (fault.Limit b) = codes "job file: limit of " ++ bound_text b
job_fault_text fault.Memory = codes "out of memory"
