-- Believed: which clones the sections of a job file plan (fio's manual, "Job file format").
use Rattle.std.specs.Prelude.{ℕ, ◌+◌, List, [], ◌∷◌, ◌++◌, Result, Ok, Err, if◌then◌else◌}
use Rattle.jr_text.specs.Records.{LineText, SectionText}
use Rattle.jr_options.specs.declared.planned.PlannedJob.{PlannedJob}
use Rattle.jr_job_options.specs.declared.faults.JobFault.{JobFault}
use Rattle.jr_job_options.specs.declared.options.JobOptions.{JobOptions}
use Rattle.jr_job_options.specs.declared.shapes.Shape.{Shape}
use Rattle.jr_job_options.specs.Options.{default_options, options_from}
use Rattle.jr_job_options.specs.Shapes.{shape_of}
use Rattle.jr_options.specs.Surveys.{is_global}

-- the lines of the global sections among these
abbrev pub global_lines : List SectionText → List LineText
global_lines [] = []
global_lines (section ∷ sections) = (if is_global section then section.lines else []) ++ global_lines sections

-- the lines that count for a job below these sections: those of the global ones, then its own
abbrev pub effective_lines : List SectionText → SectionText → List LineText
effective_lines above section = global_lines above ++ section.lines

-- the options of the job of a section below others
abbrev pub options_of : List SectionText → SectionText → Result JobOptions JobFault
options_of above section = options_from (Ok default_options) (effective_lines above section)

-- the job of a section, after the jobs up to a phase: it begins a phase where it has `stonewall`
abbrev pub shaped_job : ℕ → JobOptions → Result Shape JobFault → Result PlannedJob JobFault
shaped_job phase o (Err fault) = Err fault
shaped_job phase o (Ok shape) = Ok (record { phase = phase + (if o.stonewall then 1 else 0); options = o; shape = shape })

abbrev pub job_with : ℕ → SectionText → Result JobOptions JobFault → Result PlannedJob JobFault
job_with phase section (Err fault) = Err fault
job_with phase section (Ok o) = shaped_job phase o (shape_of o section.line)

abbrev pub planned_job : ℕ → List SectionText → SectionText → Result PlannedJob JobFault
planned_job phase above section = job_with phase section (options_of above section)
