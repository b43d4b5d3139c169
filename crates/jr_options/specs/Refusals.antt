-- Believed: why the sections of a job file make no plan (the faults and the limits are of this project): the first faulty line, else the
-- first job at fault, else what is wrong with all jobs together.
use Rattle.std.specs.Prelude.{ℕ, ◌+◌, ◌-◌, ◌*◌, nat_lt, ◌==◌, Bool, not, ◌||◌, List, [], filter, flat_map, sum_by, Option, Some, None, if◌then◌else◌}
use Rattle.std.specs.List.{list_any}
use Rattle.std.specs.Option.{option_or}
use Rattle.std.specs.Result.{result_err}
use Rattle.jr_model.specs.declared.limits.TheConstants.{LARGEST_END, MOST_CELLS, MOST_CLONES, MOST_WORK}
use Rattle.jr_model.specs.History.{first_given}
use Rattle.jr_text.specs.Records.{LineText, SectionText}
use Rattle.jr_plan.specs.declared.faults.Bound.TheVariants as bound
use Rattle.jr_job_options.specs.declared.faults.JobFault.{JobFault}
use Rattle.jr_job_options.specs.declared.faults.JobFault.TheVariants as fault
use Rattle.jr_options.specs.PlanOf.{JobAsked, jobs_below, engine_of}
use Rattle.jr_job_options.specs.Settings.{setting_of}
use Rattle.jr_job_options.specs.Shapes.{shape_of, shape_in}
use Rattle.jr_options.specs.Surveys.{is_global, is_planned, start_of, engine_number}

-- the lines that are looked at, in the order of the file: those of all global sections and of planned jobs
abbrev pub counts : Option (List ℕ) → SectionText → Bool
counts only section = is_global section || is_planned only section

abbrev pub lines_of : List SectionText → List LineText
lines_of sections = flat_map (λ (section : SectionText). section.lines) sections

abbrev pub counting_lines : Option (List ℕ) → List SectionText → List LineText
counting_lines only sections = lines_of (filter (counts only) sections)

-- a line's own fault
abbrev pub line_fault : LineText → Option JobFault
line_fault line = result_err (setting_of line)

-- a job's own fault
abbrev pub job_fault : JobAsked → Option JobFault
job_fault job = result_err (shape_of job.options job.line)

-- the jobs have several kinds of engine: some job's is not that of the first
abbrev pub has_other_engine : ℕ → JobAsked → Bool
has_other_engine kind job = not (kind == engine_number job.options.engine)

abbrev pub are_mixed : List JobAsked → Bool
are_mixed jobs = list_any (has_other_engine (engine_number (engine_of jobs))) jobs

-- the clones of a job
abbrev pub clones_in : JobAsked → ℕ
clones_in job = job.options.clones

-- the region of the job's last clone ends beyond the furthest end
abbrev pub is_far : JobAsked → Bool
is_far job = nat_lt LARGEST_END (start_of job.options (job.options.clones - 1) + (shape_in job.options).size)

-- each clone of the job has more cells than a clone may have
abbrev pub is_long : JobAsked → Bool
is_long job = nat_lt MOST_CELLS (shape_in job.options).cells

-- the cells that all passes of all clones of a job visit
abbrev pub work_in : JobAsked → ℕ
work_in job = (shape_in job.options).cells * job.options.passes * job.options.clones

-- what is wrong with sound jobs together
abbrev pub joint_fault : List JobAsked → Option JobFault
joint_fault jobs =
    if are_mixed jobs then Some fault.MixedEngines
    else (if nat_lt MOST_CLONES (sum_by clones_in jobs) then Some (fault.Limit bound.Clones)
    else (if list_any is_far jobs then Some (fault.Limit bound.Region)
    else (if list_any is_long jobs then Some (fault.Limit bound.Cells)
    else (if nat_lt MOST_WORK (sum_by work_in jobs) then Some (fault.Limit bound.Work) else None))))

-- the first fault of jobs whose lines are right
abbrev pub jobs_fault : List JobAsked → Option JobFault
jobs_fault jobs = option_or (first_given job_fault jobs) (joint_fault jobs)

-- the first fault of sections, want of memory aside
unfoldable pub refusal_of : List SectionText → Option (List ℕ) → Option JobFault
refusal_of sections only =
    if not (list_any (λ section. not (is_global section)) sections) then Some fault.NoJob
    else (if not (list_any (is_planned only) sections) then Some fault.NoSection
    else option_or (first_given line_fault (counting_lines only sections)) (jobs_fault (jobs_below only [] sections)))
