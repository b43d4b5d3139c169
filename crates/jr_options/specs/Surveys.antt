-- Believed: what the planned jobs come to together.
use Rattle.std.specs.Prelude.{ℕ, ◌+◌, ◌-◌, ◌*◌, ◌≤◌, nat_lt, min, max, ◌==◌, Bool, true, false, not, ◌&&◌, ◌||◌, List, [], ◌∷◌, Option, Some, None, is_some, unwrap_or, Result, Ok, Err, if◌then◌else◌, codes}
use Rattle.std.specs.List.{list_any}
use Rattle.std.specs.Option.{option_or}
use Rattle.jr_model.specs.declared.workloads.EngineKind.{EngineKind}
use Rattle.jr_model.specs.declared.workloads.EngineKind.TheVariants as engine
use Rattle.jr_text.specs.Records.{SectionText}
use Rattle.jr_plan.specs.declared.faults.Bound.TheVariants as bound
use Rattle.jr_job_options.specs.declared.faults.JobFault.{JobFault}
use Rattle.jr_job_options.specs.declared.faults.JobFault.TheVariants as fault
use Rattle.jr_job_options.specs.declared.options.JobOptions.{JobOptions}
use Rattle.jr_options.specs.declared.surveys.Survey.{Survey}
use Rattle.jr_options.specs.declared.tallies.Tally.{Tally}
use Rattle.jr_job_options.specs.declared.shapes.Shape.{Shape}
use Rattle.jr_plan.specs.Files.{same_text}
use Rattle.jr_job_options.specs.Options.{default_options, options_from}
use Rattle.jr_job_options.specs.Shapes.{shape_of}

-- where the clone of this place within its job begins
abbrev pub start_of : JobOptions → ℕ → ℕ
start_of o index = o.offset + o.offset_step * index

-- the sums of a tally stay small
pub record IsCapped (tally : Tally) : Type 0 where
  pub clones : tally.clones ≤ 65
  pub work : tally.work ≤ 1073741825
  pub verifiers : tally.verifiers ≤ 16

-- the section's lines count for the jobs below it; it is no job
abbrev pub is_global : SectionText → Bool
is_global section = same_text section.name (codes "global")

-- the job is one of those that were asked for: of one name, or all
abbrev pub is_named : Option (List ℕ) → SectionText → Bool
is_named None section = true
is_named (Some name) section = same_text section.name name

abbrev pub is_planned : Option (List ℕ) → SectionText → Bool
is_planned only section = not (is_global section) && is_named only section

-- the kinds of engine by number
abbrev pub engine_number : EngineKind → ℕ
engine_number engine.File = 0
engine_number engine.Memory = 1
engine_number engine.Null = 2

abbrev pub is_other_engine : Option EngineKind → EngineKind → Bool
is_other_engine None other = false
is_other_engine (Some kind) other = not (engine_number kind == engine_number other)

-- before any job
abbrev pub empty_tally : Tally
empty_tally = record { fault = None; engine = None; is_mixed = false; clones = 0; is_far = false; is_long = false; work = 0; verifiers = 0 }

-- what one more job adds, whatever its shape
abbrev pub counted : Tally → JobOptions → Tally
counted t o = record t {
  is_mixed = t.is_mixed || is_other_engine t.engine o.engine;
  engine = Some (unwrap_or t.engine o.engine);
  clones = min (t.clones + o.clones) 65;
  verifiers = max t.verifiers o.verifiers;
}

-- what its shape adds, or its fault where no job before had one
abbrev pub and_shape : Tally → JobOptions → Result Shape JobFault → Tally
and_shape t o (Err f) = record t { fault = option_or t.fault (Some f) }
and_shape t o (Ok shape) = record t {
  is_far = t.is_far || nat_lt 1125899906842624 (start_of o (o.clones - 1) + shape.size);
  is_long = t.is_long || nat_lt 16777216 shape.cells;
  work = min (t.work + shape.cells * o.passes * o.clones) 1073741825;
}

abbrev pub and_job : Tally → JobOptions → ℕ → Tally
and_job t o line = and_shape (counted t o) o (shape_of o line)

-- the first of the faults that show only over all jobs
unfoldable pub tally_fault : Tally → Option JobFault
tally_fault t =
    if is_some t.fault then t.fault
    else (if t.is_mixed then Some fault.MixedEngines
    else (if nat_lt 64 t.clones then Some (fault.Limit bound.Clones)
    else (if t.is_far then Some (fault.Limit bound.Region)
    else (if t.is_long then Some (fault.Limit bound.Cells)
    else (if nat_lt 1073741824 t.work then Some (fault.Limit bound.Work) else None)))))

-- before any section
abbrev pub first_survey : Survey
first_survey = record { globals = default_options; tally = empty_tally }

-- a section whose lines have been read: a global one sets what counts below it, a job is counted
abbrev pub and_section : Survey → SectionText → Result JobOptions JobFault → Result Survey JobFault
and_section s section (Err f) = Err f
and_section s section (Ok o) =
    if is_global section then Ok (record s { globals = o })
    else Ok (record s { tally = and_job s.tally o section.line })

-- one section more; those that aren't asked for aren't looked at
abbrev pub with_section : Option (List ℕ) → Survey → SectionText → Result Survey JobFault
with_section only s section =
    if not (is_global section) && not (is_planned only section) then Ok s
    else and_section s section (options_from (Ok s.globals) section.lines)

abbrev pub with_next : Option (List ℕ) → Result Survey JobFault → SectionText → Result Survey JobFault
with_next only (Err f) section = Err f
with_next only (Ok s) section = with_section only s section

-- all sections, or the first faulty line in them
abbrev pub survey_from : Option (List ℕ) → Result Survey JobFault → List SectionText → Result Survey JobFault
survey_from only read [] = read
survey_from only read (section ∷ sections) = survey_from only (with_next only read section) sections

-- what is known of all jobs then
abbrev pub tally_in : Result Survey JobFault → Result Tally JobFault
tally_in (Err f) = Err f
tally_in (Ok s) = Ok s.tally

abbrev pub refusal_in : Result Tally JobFault → Option JobFault
refusal_in (Err f) = Some f
refusal_in (Ok t) = tally_fault t

-- why the reader's pass over sections makes no plan, want of memory aside
unfoldable pub survey_refusal : List SectionText → Option (List ℕ) → Option JobFault
survey_refusal sections only =
    if not (list_any (λ section. not (is_global section)) sections) then Some fault.NoJob
    else (if not (list_any (is_planned only) sections) then Some fault.NoSection
    else refusal_in (tally_in (survey_from only (Ok first_survey) sections)))
