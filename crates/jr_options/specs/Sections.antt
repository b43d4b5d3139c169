-- Internal: what a section says, read behind the global options above it, and a job by what has been read of it.
use Rattle.std.specs.Prelude.{ℕ, List, Option, Result, Ok, Err, if◌then◌else◌}
use Rattle.jr_text.specs.Records.{SectionText}
use Rattle.jr_job_options.specs.declared.faults.JobFault.{JobFault}
use Rattle.jr_job_options.specs.declared.options.JobOptions.{JobOptions}
use Rattle.jr_job_options.specs.Options.{AreInRange, options_from}
use Rattle.jr_options.specs.declared.planned.PlannedJob.{PlannedJob}
use Rattle.jr_options.specs.declared.sections.Reading.{Reading}
use Rattle.jr_options.specs.declared.sections.Reading.TheVariants as reading
use Rattle.jr_options.specs.PlanOf.{PhasedJob}
use Rattle.jr_options.specs.Surveys.{is_global, is_planned}

-- the numbers of its options are ones that they may have
abbrev pub IsInRange : Reading → Type 0
IsInRange (reading.Globals o) = AreInRange o
IsInRange (reading.Job o) = AreInRange o
IsInRange reading.Skipped = Unit {0}

abbrev pub globals_read : Result JobOptions JobFault → Result Reading JobFault
globals_read (Err fault) = Err fault
globals_read (Ok o) = Ok (reading.Globals o)

abbrev pub job_read : Result JobOptions JobFault → Result Reading JobFault
job_read (Err fault) = Err fault
job_read (Ok o) = Ok (reading.Job o)

-- what a section says, or the first fault in its lines
abbrev pub reading_of : Option (List ℕ) → JobOptions → SectionText → Result Reading JobFault
reading_of only globals section =
    if is_global section then globals_read (options_from (Ok globals) section.lines)
    else (if is_planned only section then job_read (options_from (Ok globals) section.lines) else Ok reading.Skipped)

-- a section's job, with the names that its lines give to its files
abbrev pub asked_job : PlannedJob → SectionText → Option (List ℕ) → Option (List ℕ) → PhasedJob
asked_job job section file_name directory = record {
  phase = job.phase;
  job = record { name = section.name; line = section.line; options = job.options; file_name = file_name; directory = directory };
}
