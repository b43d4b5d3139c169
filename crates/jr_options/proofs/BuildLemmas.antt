-- How the plan's clones are built from the sections one after another.
use Rattle.std.proofs.Common.{◌≡◌, ℕ, ◌+◌, ◌*◌, ◌<◌, ◌≤◌, Bool, true, false, not, ◌&&◌, ◌||◌, cond, List, [], ◌∷◌, ◌++◌, length, take, drop, slice_index_or, Option, None, Ok, Err, ap, ◌∙◌, sym, subst, refl, arith, codes}
use Rattle.std.specs.Prelude.{fold}
use Rattle.std.specs.List.{list_any}
use Rattle.std.proofs.lemmas.List.{take_more, at_drop_more, at_drop_all}
use Rattle.jr_text.specs.Records.{SectionText}
use Rattle.jr_options.specs.declared.planned.PlannedJob.{PlannedJob}
use Rattle.jr_options.specs.declared.sections.Reading.TheVariants as reading
use Rattle.jr_options.specs.declared.tallies.Tally.{Tally}
use Rattle.jr_job_options.specs.declared.faults.JobFault.{JobFault}
use Rattle.jr_job_options.specs.declared.options.JobOptions.{JobOptions}
use Rattle.jr_job_options.specs.Lookups.{value_from}
use Rattle.jr_job_options.specs.Options.{default_options}
use Rattle.jr_plan.specs.Drafts.{Clones}
use Rattle.jr_options.specs.Jobs.{planned_job, job_with, shaped_job}
use Rattle.jr_model.specs.PlanFacts.{work_of}
use Rattle.jr_options.specs.PlanOf.{HasRoom, PhasedJob, job_asked, jobs_below, phased_job, clones_asked, planned_as, with_asked, no_clones, clones_of}
use Rattle.jr_options.specs.Sections.{asked_job, reading_of}
use Rattle.jr_job_options.specs.Shapes.{shape_in, shape_of}
use Rattle.jr_options.specs.Surveys.{first_survey, is_global, is_named, is_planned, survey_from, tally_fault, tally_in, empty_tally}
use Rattle.jr_options.proofs.CloneLemmas.{next_phase, with_jobs, clones_more, work_more, clones_of-jobs}
use Rattle.jr_options.proofs.CountLemmas.{Counts, counts-first, counts-global, counts-other, counts-read, counts-options, counts-file, counts-directory}
use Rattle.jr_options.proofs.ReadingLemmas.{says_globals, says_job, says_nothing, says_fault}
use Rattle.jr_options.proofs.SoundLemmas.{AllFit, fit-before, all_fit}
use Rattle.jr_options.proofs.SurveyLemmas.{AreRead, tally_from, surveyed}

-- the sections that are left bring the clones that are left, with room for all of them
pub record AreLeft (only : Option (List ℕ)) (above rest : List SectionText) (d : Clones) (phase : ℕ) (all : Clones) : Type 0 where
  pub made : with_jobs d phase (jobs_below only above rest) ≡ all
  pub read : AreRead only above rest
  pub fit : AllFit (length d.clones) (work_of d.clones) (jobs_below only above rest)
  pub phases : phase ≤ length d.clones
  pub some : list_any (is_planned only) rest ≡ false → 1 ≤ length d.clones

left-first : (only : Option (List ℕ)) (sections : List SectionText) (tally : Tally) → list_any (is_planned only) sections ≡ true → (tally_from empty_tally (jobs_below only [] sections) ≡ tally) × AreRead only [] sections → tally_fault tally ≡ None → AreLeft only [] sections no_clones 0 (clones_of (jobs_below only [] sections))
left-first only sections tally planned found sound =
    let jobs = jobs_below only [] sections in
    record {
      made = sym (clones_of-jobs jobs);
      read = found.1;
      fit = all_fit jobs (ap tally_fault found.0 ∙ sound);
      phases = omega arith;
      some = λ none. absurd (let e : true ≡ false = sym planned ∙ none in cc);
    }

pub left-phase : (only : Option (List ℕ)) (above rest : List SectionText) (d : Clones) (phase : ℕ) (all : Clones) → AreLeft only above rest d phase all → phase ≤ 64
left-phase only above rest d phase all h =
    omega (arith, h.phases, (fit-before (length d.clones) (work_of d.clones) (jobs_below only above rest) h.fit).0)

module _ (only : Option (List ℕ)) (above rest : List SectionText) (section : SectionText) (d : Clones) (phase : ℕ) (all : Clones) (h : AreLeft only above (section ∷ rest) d phase all) where
  -- a section that isn't planned brings nothing
  skipped : is_planned only section ≡ false → jobs_below only above (section ∷ rest) ≡ jobs_below only (above ++ section ∷ []) rest
  skipped e = ap (λ b. cond b (job_asked above section ∷ []) [] ++ jobs_below only (above ++ section ∷ []) rest) e

  left-skip : is_planned only section ≡ false → AreLeft only (above ++ section ∷ []) rest d phase all
  left-skip e = record {
    made = ap (with_jobs d phase) (sym (skipped e)) ∙ h.made;
    read = h.read.1;
    fit = subst (AllFit (length d.clones) (work_of d.clones)) (skipped e) h.fit;
    phases = h.phases;
    some = λ none. h.some (ap (λ b. b || list_any (is_planned only) rest) e ∙ none);
  }

  -- a planned one brings its job
  taken : is_planned only section ≡ true → jobs_below only above (section ∷ rest) ≡ job_asked above section ∷ jobs_below only (above ++ section ∷ []) rest
  taken e = ap (λ b. cond b (job_asked above section ∷ []) [] ++ jobs_below only (above ++ section ∷ []) rest) e

  fit_now : is_planned only section ≡ true → AllFit (length d.clones) (work_of d.clones) (job_asked above section ∷ jobs_below only (above ++ section ∷ []) rest)
  fit_now e = subst (AllFit (length d.clones) (work_of d.clones)) (taken e) h.fit

  -- its job is the one that its lines ask for
  planned_ok : is_planned only section ≡ true → planned_job phase above section ≡ Ok (planned_as (phased_job (next_phase phase (job_asked above section)) above section))
  planned_ok e =
      let job = job_asked above section in
      ap (job_with phase section) (h.read.0 e) ∙ ap (shaped_job phase job.options) (fit_now e).0.shape

  planned_is : (job : PlannedJob) → is_planned only section ≡ true → Ok job ≡ planned_job phase above section → job ≡ planned_as (phased_job job.phase above section)
  planned_is job e is =
      let whole : Ok job ≡ Ok (planned_as (phased_job (next_phase phase (job_asked above section)) above section)) = is ∙ planned_ok e in
      let same : job ≡ planned_as (phased_job (next_phase phase (job_asked above section)) above section) = cc in
      same ∙ ap (λ n. planned_as (phased_job n above section)) (sym (ap (λ (j : PlannedJob). j.phase) same))

  phase_is : (job : PlannedJob) → is_planned only section ≡ true → Ok job ≡ planned_job phase above section → job.phase ≡ next_phase phase (job_asked above section)
  phase_is job e is =
      let whole : Ok job ≡ Ok (planned_as (phased_job (next_phase phase (job_asked above section)) above section)) = is ∙ planned_ok e in
      let same : job ≡ planned_as (phased_job (next_phase phase (job_asked above section)) above section) = cc in
      ap (λ (j : PlannedJob). j.phase) same

  -- it can't be refused
  never_refused : (fault : JobFault) → is_planned only section ≡ true → Err fault ≡ planned_job phase above section → ⊥
  never_refused fault e is =
      let whole : Err fault ≡ Ok (planned_as (phased_job (next_phase phase (job_asked above section)) above section)) = is ∙ planned_ok e in
      cc

  left-room : is_planned only section ≡ true → (n : ℕ) → HasRoom d (planned_as (phased_job n above section))
  left-room e n =
      let job = job_asked above section in
      let fits = (fit_now e).0 in
      let later = fit-before (length d.clones + job.options.clones) (work_of d.clones + (shape_in job.options).cells * job.options.passes * job.options.clones) (jobs_below only (above ++ section ∷ []) rest) (fit_now e).1 in
      record { count = later.0; region = fits.region; cells = fits.cells; work = later.1 }

  left-take : (next : Clones) (n : ℕ) → is_planned only section ≡ true → 1 ≤ (job_asked above section).options.clones → n ≡ next_phase phase (job_asked above section) → next ≡ fold with_asked d (clones_asked (phased_job n above section)) → AreLeft only (above ++ section ∷ []) rest next n all
  left-take next n e least phased is =
      let job = job_asked above section in
      let jobs = jobs_below only (above ++ section ∷ []) rest in
      let p = phased_job n above section in
      let count : length next.clones ≡ length d.clones + job.options.clones = ap (λ (x : Clones). length x.clones) is ∙ clones_more d p in
      let work : work_of next.clones ≡ work_of d.clones + (shape_in job.options).cells * job.options.passes * job.options.clones = ap (λ (x : Clones). work_of x.clones) is ∙ work_more d p in
      let P : ℕ → Type 0 = λ k. AllFit k (work_of d.clones + (shape_in job.options).cells * job.options.passes * job.options.clones) jobs in
      let Q : ℕ → Type 0 = λ w. AllFit (length next.clones) w jobs in
      let one : cond job.options.stonewall 1 0 ≤ 1 = at_most_one job.options.stonewall in
      record {
        made =
            ap (λ x. with_jobs x n jobs) is
            ∙ ap (λ k. with_jobs (fold with_asked d (clones_asked (phased_job k above section))) k jobs) phased
            ∙ sym (ap (with_jobs d phase) (taken e))
            ∙ h.made;
        read = h.read.1;
        fit = subst Q (sym work) (subst P (sym count) (fit_now e).1);
        phases = omega (arith, count, phased, one, least, h.phases);
        some = λ none. omega (arith, count, least);
      }
    where
      at_most_one : (b : Bool) → cond b 1 0 ≤ 1
      at_most_one true = omega arith
      at_most_one false = omega arith

-- the same, with what counts below the sections above
pub record Stands (only : Option (List ℕ)) (above rest : List SectionText) (d : Clones) (phase : ℕ) (globals : JobOptions) (file directory : Option (List ℕ)) (all : Clones) : Type 0 where
  pub left : AreLeft only above rest d phase all
  pub counts : Counts above rest globals file directory

pub stands-first : (only : Option (List ℕ)) (sections : List SectionText) (tally : Tally) → list_any (is_planned only) sections ≡ true → tally_in (survey_from only (Ok first_survey) sections) ≡ Ok tally → tally_fault tally ≡ None → Stands only [] sections no_clones 0 default_options None None (clones_of (jobs_below only [] sections))
stands-first only sections tally planned found sound = record {
  left = left-first only sections tally planned (surveyed only sections tally found) sound;
  counts = counts-first only sections tally found;
}

module _ {only : Option (List ℕ)} {above rest : List SectionText} {section : SectionText} {d : Clones} {phase : ℕ} {globals : JobOptions} {file directory : Option (List ℕ)} {all : Clones} (h : Stands only above (section ∷ rest) d phase globals file directory all) where
  unplanned : is_global section ≡ true → is_planned only section ≡ false
  unplanned g = ap (λ b. not b && is_named only section) g

  pub stands-global : (o : JobOptions) → Ok (reading.Globals o) ≡ reading_of only globals section → Stands only (above ++ section ∷ []) rest d phase o (value_from file (codes "filename") section.lines) (value_from directory (codes "directory") section.lines) all
  stands-global o is =
      let says = says_globals only globals section o is in
      record {
        left = left-skip only above rest section d phase all h.left (unplanned says.0);
        counts = counts-global above rest section globals file directory h.counts o says.0 says.1;
      }

  pub stands-skip : Ok reading.Skipped ≡ reading_of only globals section → Stands only (above ++ section ∷ []) rest d phase globals file directory all
  stands-skip is =
      let says = says_nothing only globals section is in
      record {
        left = left-skip only above rest section d phase all h.left says.1;
        counts = counts-other above rest section globals file directory h.counts says.0;
      }

  pub stands-read : (f : JobFault) → Err f ≡ reading_of only globals section → ⊥
  stands-read f is =
      says_fault only globals section f is (counts-read above rest section globals file directory h.counts f)
      (λ planned read. let e : Err f ≡ Ok (job_asked above section).options = sym read ∙ sym (counts-options above rest section globals file directory h.counts) ∙ h.left.read.0 planned in cc)

  -- a job's options are those that its lines ask for
  planned_by : (o : JobOptions) → Ok (reading.Job o) ≡ reading_of only globals section → planned_job phase above section ≡ shaped_job phase o (shape_of o section.line)
  planned_by o is =
      ap (job_with phase section) (counts-options above rest section globals file directory h.counts ∙ (says_job only globals section o is).2)

  pub stands-shaped : (o : JobOptions) (f : JobFault) → Ok (reading.Job o) ≡ reading_of only globals section → Err f ≡ shaped_job phase o (shape_of o section.line) → ⊥
  stands-shaped o f is shaped =
      never_refused only above rest section d phase all h.left f (says_job only globals section o is).1 (shaped ∙ sym (planned_by o is))

  module _ (o : JobOptions) (job : PlannedJob) (is : Ok (reading.Job o) ≡ reading_of only globals section) (shaped : Ok job ≡ shaped_job phase o (shape_of o section.line)) where
    planned : is_planned only section ≡ true
    planned = (says_job only globals section o is).1

    job_is : job ≡ planned_as (phased_job job.phase above section)
    job_is = planned_is only above rest section d phase all h.left job planned (shaped ∙ sym (planned_by o is))

    pub stands-room : HasRoom d job
    stands-room = subst (HasRoom d) (sym job_is) (left-room only above rest section d phase all h.left planned job.phase)

    -- it is asked for with the names that its lines give
    asked_is : (file_name its_directory : Option (List ℕ)) → file_name ≡ value_from file (codes "filename") section.lines → its_directory ≡ value_from directory (codes "directory") section.lines → asked_job job section file_name its_directory ≡ phased_job job.phase above section
    asked_is file_name its_directory named placed =
        let made : JobOptions → Option (List ℕ) → Option (List ℕ) → PhasedJob = λ (x : JobOptions) (v w : Option (List ℕ)). record { phase = job.phase; job = record { name = section.name; line = section.line; options = x; file_name = v; directory = w } } in
        ap (λ x. made x file_name its_directory) (ap (λ (j : PlannedJob). j.options) job_is)
        ∙ ap (λ v. made (job_asked above section).options v its_directory) (named ∙ counts-file above rest section globals file directory h.counts)
        ∙ ap (λ w. made (job_asked above section).options (job_asked above section).file_name w) (placed ∙ counts-directory above rest section globals file directory h.counts)

    pub stands-asked : (file_name its_directory : Option (List ℕ)) → file_name ≡ value_from file (codes "filename") section.lines → its_directory ≡ value_from directory (codes "directory") section.lines → job ≡ planned_as (asked_job job section file_name its_directory)
    stands-asked file_name its_directory named placed = job_is ∙ ap planned_as (sym (asked_is file_name its_directory named placed))

    pub stands-job : (next : Clones) (file_name its_directory : Option (List ℕ)) → file_name ≡ value_from file (codes "filename") section.lines → its_directory ≡ value_from directory (codes "directory") section.lines → 1 ≤ job.options.clones → next ≡ fold with_asked d (clones_asked (asked_job job section file_name its_directory)) → Stands only (above ++ section ∷ []) rest next job.phase globals file directory all
    stands-job next file_name its_directory named placed least made =
        let phased = phase_is only above rest section d phase all h.left job planned (shaped ∙ sym (planned_by o is)) in
        let same = ap (λ (j : PlannedJob). j.options.clones) job_is in
        record {
          left =
              left-take only above rest section d phase all h.left next job.phase planned (omega (arith, least, same)) phased
              (made ∙ ap (λ p. fold with_asked d (clones_asked p)) (asked_is file_name its_directory named placed));
          counts = counts-other above rest section globals file directory h.counts (says_job only globals section o is).0;
        }

-- the same of what is equal
pub stands-as : {only : Option (List ℕ)} {above rest : List SectionText} {d e : Clones} {p q : ℕ} {g o : JobOptions} {f v : Option (List ℕ)} {w x : Option (List ℕ)} {all : Clones} → Stands only above rest d p g f w all → e ≡ d → q ≡ p → o ≡ g → v ≡ f → x ≡ w → Stands only above rest e q o v x all
stands-as {only} {above} {rest} {d} {e} {p} {q} {g} {o} {f} {v} {w} {x} {all} h e1 e2 e3 e4 e5 =
    let h1 = subst (λ (y : Clones). Stands only above rest y p g f w all) (sym e1) h in
    let h2 = subst (λ (y : ℕ). Stands only above rest e y g f w all) (sym e2) h1 in
    let h3 = subst (λ (y : JobOptions). Stands only above rest e q y f w all) (sym e3) h2 in
    let h4 = subst (λ (y : Option (List ℕ)). Stands only above rest e q o y w all) (sym e4) h3 in
    subst (λ (y : Option (List ℕ)). Stands only above rest e q o v y all) (sym e5) h4

-- the same by the place of the section
pub stands-at : {only : Option (List ℕ)} {d : Clones} {phase : ℕ} {globals : JobOptions} {file directory : Option (List ℕ)} {all : Clones} (sections : List SectionText) (i : ℕ) (section : SectionText) → i < length sections → section ≡ slice_index_or sections i section → Stands only (take i sections) (drop i sections) d phase globals file directory all → Stands only (take i sections) (section ∷ drop (i + 1) sections) d phase globals file directory all
stands-at {only} {d} {phase} {globals} {file} {directory} {all} sections i section within here h =
    subst (λ (rest : List SectionText). Stands only (take i sections) rest d phase globals file directory all)
    (at_drop_more (λ rest. rest) sections i section within ∙ ap (λ x. x ∷ drop (i + 1) sections) (sym here)) h

pub stands-on : {only : Option (List ℕ)} {d : Clones} {phase : ℕ} {globals : JobOptions} {file directory : Option (List ℕ)} {all : Clones} (sections : List SectionText) (i : ℕ) (section : SectionText) → i < length sections → section ≡ slice_index_or sections i section → Stands only (take i sections ++ section ∷ []) (drop (i + 1) sections) d phase globals file directory all → Stands only (take (i + 1) sections) (drop (i + 1) sections) d phase globals file directory all
stands-on {only} {d} {phase} {globals} {file} {directory} {all} sections i section within here h =
    subst (λ (above : List SectionText). Stands only above (drop (i + 1) sections) d phase globals file directory all)
    (sym (take_more sections i section within ∙ ap (λ x. take i sections ++ x ∷ []) (sym here))) h

-- no section is left
pub left-none : (only : Option (List ℕ)) (sections : List SectionText) (i : ℕ) (d : Clones) (phase : ℕ) (all : Clones) → length sections ≤ i → AreLeft only (take i sections) (drop i sections) d phase all → (d ≡ all) × (1 ≤ length d.clones)
left-none only sections i d phase all past h =
    let P : List SectionText → Type 0 = λ rest. AreLeft only (take i sections) rest d phase all in
    let last = subst P (at_drop_all (λ rest. rest) sections i past) h in
    (last.made, last.some refl)
