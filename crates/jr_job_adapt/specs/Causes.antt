-- Believed: which jobs may be left out of an adapted job file.
use Rattle.std.specs.Prelude.{ℕ, ◌+◌, ◌&&◌, Bool, true, not, List, [], ◌∷◌, is_some, Result, if◌then◌else◌}
use Rattle.std.specs.Result.{result_err}
use Rattle.jr_text.specs.Records.{SectionText}
use Rattle.jr_job_options.specs.declared.faults.JobFault.{JobFault}
use Rattle.jr_job_options.specs.declared.options.JobOptions.{JobOptions}
use Rattle.jr_job_options.specs.Options.{options_from}
use Rattle.jr_options.specs.Jobs.{job_with}
use Rattle.jr_options.specs.Surveys.{is_global}
use Rattle.jr_job_adapt.specs.Keeping.{is_out}

-- a section makes no job by itself below these global options: a line of both is refused, or they are at fault together
abbrev pub is_faulty : Result JobOptions JobFault → SectionText → Bool
is_faulty above section = is_some (result_err (job_with 0 section (options_from above section.lines)))

-- such a one isn't needed
abbrev pub is_needed : Result JobOptions JobFault → SectionText → Bool
is_needed above section = not (is_global section) && not (is_faulty above section)

-- what counts below a section: its lines too, where it is a global one
abbrev pub below : Result JobOptions JobFault → SectionText → Result JobOptions JobFault
below above section = if is_global section then options_from above section.lines else above

-- no job that is left out is needed
abbrev pub are_caused : List Bool → ℕ → Result JobOptions JobFault → List SectionText → Bool
are_caused outs i above [] = true
are_caused outs i above (section ∷ sections) =
    not (is_out outs i && is_needed above section) && are_caused outs (i + 1) (below above section) sections
