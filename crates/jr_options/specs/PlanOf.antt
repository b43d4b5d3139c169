-- Believed: the plan that the sections of a job file ask for (fio's manual, "Job file format"; the names and the numbers of clones
-- and files are of this project).
use Rattle.std.specs.Prelude.{ℕ, ◌+◌, ◌-◌, ◌*◌, ◌≤◌, ◌==◌, max, Bool, List, [], ◌∷◌, ◌++◌, length, take, replicate, map, flat_map, fold, count_by, slice_index, Option, Some, None, unwrap_or, if◌then◌else◌, codes, decimal}
use Rattle.std.specs.List.{enumerate_from}
use Rattle.jr_model.specs.declared.workloads.EngineKind.{EngineKind}
use Rattle.jr_model.specs.declared.workloads.EngineKind.TheVariants as engine
use Rattle.jr_model.specs.Plan.{Plan}
use Rattle.jr_text.specs.Records.{SectionText}
use Rattle.jr_options.specs.declared.planned.PlannedJob.{PlannedJob}
use Rattle.jr_job_options.specs.declared.options.JobOptions.{JobOptions}
use Rattle.jr_plan.specs.Drafts.{Clones, with_clone}
pub use Rattle.jr_plan.specs.Drafts.{no_clones}
use Rattle.jr_options.specs.Planned.{workload_of}
use Rattle.jr_model.specs.declared.limits.TheConstants.{LARGEST_END, MOST_CELLS, MOST_CLONES, MOST_WORK}
use Rattle.jr_options.specs.Jobs.{effective_lines}
use Rattle.jr_job_options.specs.Lookups.{options_in, last_value}
use Rattle.jr_model.specs.PlanFacts.{work_of}
use Rattle.jr_job_options.specs.Shapes.{shape_in}
use Rattle.jr_options.specs.Surveys.{is_planned, start_of}

-- what the lines that count for a job ask for
pub record JobAsked : Type 0 where
  pub name : List ℕ
  pub line : ℕ
  pub options : JobOptions
  pub file_name : Option (List ℕ)
  pub directory : Option (List ℕ)

-- the job of a section below others
abbrev pub job_asked : List SectionText → SectionText → JobAsked
job_asked above section =
    let lines = effective_lines above section in record {
      name = section.name;
      line = section.line;
      options = options_in lines;
      file_name = last_value (codes "filename") lines;
      directory = last_value (codes "directory") lines;
    }

-- the planned jobs among sections that stand below others
abbrev pub jobs_below : Option (List ℕ) → List SectionText → List SectionText → List JobAsked
jobs_below only above [] = []
jobs_below only above (section ∷ sections) =
    (if is_planned only section then job_asked above section ∷ [] else []) ++ jobs_below only (above ++ section ∷ []) sections

-- a job with its phase: the number of jobs with `stonewall` up to and including it
pub record PhasedJob : Type 0 where
  pub phase : ℕ
  pub job : JobAsked

abbrev pub phased_job : ℕ → List SectionText → SectionText → PhasedJob
phased_job phase above section = record { phase = phase; job = job_asked above section }

abbrev pub stonewalls : List JobAsked → ℕ
stonewalls jobs = count_by (λ (job : JobAsked). job.options.stonewall) jobs

abbrev pub phased : List JobAsked → List PhasedJob
phased jobs = map (λ (p : ℕ × JobAsked). record { phase = stonewalls (take (p.0 + 1) jobs); job = p.1 }) (enumerate_from 0 jobs)

-- the clones of a job, each with its place within the job
abbrev pub clones_asked : PhasedJob → List (ℕ × PhasedJob)
clones_asked p = enumerate_from 0 (replicate p.job.options.clones p)

-- a name within a directory
abbrev pub ends_in_slash : List ℕ → Bool
ends_in_slash text = slice_index text (length text - 1) == 47

abbrev pub path_in : Option (List ℕ) → List ℕ → List ℕ
path_in None name = name
path_in (Some directory) name =
    if ends_in_slash directory then directory ++ name else directory ++ codes "/" ++ name

-- the path of the file of a job's clone; where the job names no file, each clone has its own
unfoldable pub default_name : List ℕ → ℕ → List ℕ
default_name name index = name ++ codes "." ++ decimal index ++ codes ".0"

abbrev pub file_of : JobAsked → ℕ → List ℕ
file_of job index = path_in job.directory (unwrap_or job.file_name (default_name job.name index))

-- the clones once the next one comes
abbrev pub planned_as : PhasedJob → PlannedJob
planned_as p = record { phase = p.phase; options = p.job.options; shape = shape_in p.job.options }

abbrev pub with_asked : Clones → ℕ × PhasedJob → Clones
with_asked d c = with_clone d (workload_of (planned_as c.1)) c.1.job.name (file_of c.1.job c.0) (start_of c.1.job.options c.0)

-- the clones of these jobs, numbered from 0, and their files in the order of their first use
abbrev pub clones_of : List JobAsked → Clones
clones_of jobs = fold with_asked no_clones (flat_map clones_asked (phased jobs))

-- the jobs' kind of engine, and the most verifiers that one of them wants
abbrev pub engine_of : List JobAsked → EngineKind
engine_of [] = engine.File
engine_of (job ∷ jobs) = job.options.engine

abbrev pub verifiers_of : List JobAsked → ℕ
verifiers_of jobs = fold (λ most (job : JobAsked). max most job.options.verifiers) 0 jobs

-- there is room for the clones of one more job within the limits
pub record HasRoom (d : Clones) (job : PlannedJob) : Type 0 where
  pub count : length d.clones + job.options.clones ≤ MOST_CLONES
  pub region : start_of job.options (job.options.clones - 1) + job.shape.size ≤ LARGEST_END
  pub cells : job.shape.cells ≤ MOST_CELLS
  pub work : work_of d.clones + job.shape.cells * job.options.passes * job.options.clones ≤ MOST_WORK

-- the plan of the jobs that are asked for
abbrev pub plan_for : List JobAsked → Plan
plan_for jobs = record {
  clones = (clones_of jobs).clones;
  files = (clones_of jobs).files;
  engine = engine_of jobs;
  verifiers = verifiers_of jobs;
}

-- the plan of sections: of all jobs, or of those of one name
unfoldable pub plan_of : List SectionText → Option (List ℕ) → Plan
plan_of sections only = plan_for (jobs_below only [] sections)
