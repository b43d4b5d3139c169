-- What follows from how a section was read, and the survey's step by it.
use Rattle.std.proofs.Common.{◌≡◌, ℕ, Bool, true, false, not, ◌&&◌, cond, List, Option, Result, Ok, Err, refl}
use Rattle.jr_text.specs.Records.{SectionText}
use Rattle.jr_job_options.specs.declared.faults.JobFault.{JobFault}
use Rattle.jr_job_options.specs.declared.options.JobOptions.{JobOptions}
use Rattle.jr_job_options.specs.Options.{options_from}
use Rattle.jr_options.specs.declared.sections.Reading.{Reading}
use Rattle.jr_options.specs.declared.sections.Reading.TheVariants as reading
use Rattle.jr_options.specs.declared.surveys.Survey.{Survey}
use Rattle.jr_options.specs.Sections.{globals_read, job_read, reading_of}
use Rattle.jr_options.specs.Surveys.{and_job, is_global, is_named, is_planned, with_section}
use Rattle.jr_options.proofs.SurveyLemmas.{after}

globals_by : (g n : Bool) (read : Result JobOptions JobFault) (o : JobOptions) → Ok (reading.Globals o) ≡ cond g (globals_read read) (cond (not g && n) (job_read read) (Ok reading.Skipped)) → (g ≡ true) × (read ≡ Ok o)
globals_by true n (Ok x) o is = (refl, cc)
globals_by true n (Err f) o is = absurd (cc)
globals_by false true (Ok x) o is = absurd (cc)
globals_by false true (Err f) o is = absurd (cc)
globals_by false false read o is = absurd (cc)

job_by : (g n : Bool) (read : Result JobOptions JobFault) (o : JobOptions) → Ok (reading.Job o) ≡ cond g (globals_read read) (cond (not g && n) (job_read read) (Ok reading.Skipped)) → (g ≡ false) × ((not g && n) ≡ true) × (read ≡ Ok o)
job_by true n (Ok x) o is = absurd (cc)
job_by true n (Err f) o is = absurd (cc)
job_by false true (Ok x) o is = (refl, refl, cc)
job_by false true (Err f) o is = absurd (cc)
job_by false false read o is = absurd (cc)

skipped_by : (g n : Bool) (read : Result JobOptions JobFault) → Ok reading.Skipped ≡ cond g (globals_read read) (cond (not g && n) (job_read read) (Ok reading.Skipped)) → (g ≡ false) × ((not g && n) ≡ false)
skipped_by true n (Ok x) is = absurd (cc)
skipped_by true n (Err f) is = absurd (cc)
skipped_by false true (Ok x) is = absurd (cc)
skipped_by false true (Err f) is = absurd (cc)
skipped_by false false read is = (refl, refl)

refused_by : (g n : Bool) (read : Result JobOptions JobFault) (f : JobFault) → Err f ≡ cond g (globals_read read) (cond (not g && n) (job_read read) (Ok reading.Skipped)) → (g ≡ true → read ≡ Err f → ⊥) → ((not g && n) ≡ true → read ≡ Err f → ⊥) → ⊥
refused_by true n (Ok x) f is global job = cc
refused_by true n (Err e) f is global job = global refl (cc)
refused_by false true (Ok x) f is global job = cc
refused_by false true (Err e) f is global job = job refl (cc)
refused_by false false read f is global job = cc

module _ (only : Option (List ℕ)) (globals : JobOptions) (section : SectionText) where
  -- lines that count for the jobs below are those of a global section
  pub says_globals : (o : JobOptions) → Ok (reading.Globals o) ≡ reading_of only globals section → (is_global section ≡ true) × (options_from (Ok globals) section.lines ≡ Ok o)
  says_globals o is = globals_by (is_global section) (is_named only section) (options_from (Ok globals) section.lines) o is

  -- a job's are those of a planned one
  pub says_job : (o : JobOptions) → Ok (reading.Job o) ≡ reading_of only globals section → (is_global section ≡ false) × (is_planned only section ≡ true) × (options_from (Ok globals) section.lines ≡ Ok o)
  says_job o is = job_by (is_global section) (is_named only section) (options_from (Ok globals) section.lines) o is

  pub says_nothing : Ok reading.Skipped ≡ reading_of only globals section → (is_global section ≡ false) × (is_planned only section ≡ false)
  says_nothing is = skipped_by (is_global section) (is_named only section) (options_from (Ok globals) section.lines) is

  -- where neither can be faulty, no section is refused
  pub says_fault : (f : JobFault) → Err f ≡ reading_of only globals section → (is_global section ≡ true → options_from (Ok globals) section.lines ≡ Err f → ⊥) → (is_planned only section ≡ true → options_from (Ok globals) section.lines ≡ Err f → ⊥) → ⊥
  says_fault f is = refused_by (is_global section) (is_named only section) (options_from (Ok globals) section.lines) f is

-- the survey once a section has been read
abbrev pub and_reading : Survey → SectionText → Result Reading JobFault → Result Survey JobFault
and_reading s section (Err f) = Err f
and_reading s section (Ok (reading.Globals o)) = Ok (record s { globals = o })
and_reading s section (Ok (reading.Job o)) = Ok (record s { tally = and_job s.tally o section.line })
and_reading s section (Ok reading.Skipped) = Ok s

stepped : (g n : Bool) (s : Survey) (section : SectionText) (read : Result JobOptions JobFault) → and_reading s section (cond g (globals_read read) (cond (not g && n) (job_read read) (Ok reading.Skipped))) ≡ cond (not g && not (not g && n)) (Ok s) (after g s section read)
unfolding after
stepped true n s section (Ok o) = refl
stepped true n s section (Err f) = refl
stepped false true s section (Ok o) = refl
stepped false true s section (Err f) = refl
stepped false false s section read = refl

pub step_by : (only : Option (List ℕ)) (s : Survey) (section : SectionText) → and_reading s section (reading_of only s.globals section) ≡ with_section only s section
unfolding after
step_by only s section = stepped (is_global section) (is_named only section) s section (options_from (Ok s.globals) section.lines)
