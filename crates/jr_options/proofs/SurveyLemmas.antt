-- A survey that finds no fault has read each planned job, and its tally is that of the jobs.
use Rattle.std.proofs.Common.{◌≡◌, ℕ, Bool, true, false, not, ◌&&◌, cond, List, [], ◌∷◌, ◌++◌, Option, Result, Ok, Err, ap, ◌∙◌, sym, refl, append_assoc, append-nil}
use Rattle.jr_text.specs.Records.{LineText, SectionText}
use Rattle.jr_job_options.specs.declared.faults.JobFault.{JobFault}
use Rattle.jr_job_options.specs.declared.options.JobOptions.{JobOptions}
use Rattle.jr_options.specs.declared.surveys.Survey.{Survey}
use Rattle.jr_options.specs.declared.tallies.Tally.{Tally}
use Rattle.jr_options.specs.Jobs.{global_lines, effective_lines, options_of}
use Rattle.jr_job_options.specs.Options.{default_options, options_from}
use Rattle.jr_options.specs.PlanOf.{JobAsked, job_asked, jobs_below}
use Rattle.jr_options.specs.Surveys.{is_global, is_named, is_planned, and_job, first_survey, survey_from, tally_in}
use Rattle.jr_job_options.proofs.LookupLemmas.{options_read}
use Rattle.jr_job_options.proofs.OptionLemmas.{options_from-append}
use Rattle.jr_options.proofs.SectionLemmas.{survey_stays}

-- a tally once more jobs come
abbrev pub tally_from : Tally → List JobAsked → Tally
tally_from t [] = t
tally_from t (job ∷ jobs) = tally_from (and_job t job.options job.line) jobs

-- no line of the planned jobs among sections below others is faulty
abbrev pub AreRead : Option (List ℕ) → List SectionText → List SectionText → Type 0
AreRead only above [] = Unit {0}
AreRead only above (section ∷ rest) =
    (is_planned only section ≡ true → options_of above section ≡ Ok (job_asked above section).options) × AreRead only (above ++ section ∷ []) rest

pub global_lines-more : (above : List SectionText) (section : SectionText) → global_lines (above ++ section ∷ []) ≡ global_lines above ++ cond (is_global section) section.lines []
global_lines-more [] section = append-nil (cond (is_global section) section.lines [])
global_lines-more (other ∷ above) section =
    ap (λ (ls : List LineText). cond (is_global other) other.lines [] ++ ls) (global_lines-more above section)
    ∙ sym (append_assoc (cond (is_global other) other.lines []) (global_lines above) (cond (is_global section) section.lines []))

-- the survey once a section's lines are read
unfoldable pub after : Bool → Survey → SectionText → Result JobOptions JobFault → Result Survey JobFault
after g s section (Err f) = Err f
after g s section (Ok o) = cond g (Ok (record s { globals = o })) (Ok (record s { tally = and_job s.tally o section.line }))

step : (only : Option (List ℕ)) (above rest : List SectionText) (section : SectionText) (s end : Survey) (jobs : List JobAsked) (A : Type 0) (g n : Bool) (read : Result JobOptions JobFault) → options_from (Ok s.globals) section.lines ≡ read → options_from (Ok default_options) (global_lines above) ≡ Ok s.globals → options_from (Ok default_options) (global_lines (above ++ section ∷ [])) ≡ options_from (Ok s.globals) (cond g section.lines []) → survey_from only (cond (not g && not (not g && n)) (Ok s) (after g s section read)) rest ≡ Ok end → ((next : Survey) → options_from (Ok default_options) (global_lines (above ++ section ∷ [])) ≡ Ok next.globals → survey_from only (Ok next) rest ≡ Ok end → (tally_from next.tally jobs ≡ end.tally) × A) → (tally_from s.tally (cond (not g && n) (job_asked above section ∷ []) [] ++ jobs) ≡ end.tally) × (((not g && n) ≡ true → options_of above section ≡ Ok (job_asked above section).options) × A)
unfolding after
step only above rest section s end jobs A true n (Err f) says globals more is later =
    absurd (let e : Err f ≡ Ok end = sym (survey_stays only f rest) ∙ is in cc)
step only above rest section s end jobs A true n (Ok o) says globals more is later =
    let all = later (record s { globals = o }) (more ∙ says) is in
    (all.0, (λ h. absurd (cc), all.1))
step only above rest section s end jobs A false false read says globals more is later =
    let all = later s more is in
    (all.0, (λ h. absurd (cc), all.1))
step only above rest section s end jobs A false true (Err f) says globals more is later =
    absurd (let e : Err f ≡ Ok end = sym (survey_stays only f rest) ∙ is in cc)
step only above rest section s end jobs A false true (Ok o) says globals more is later =
    let whole : options_of above section ≡ Ok o = options_from-append (Ok default_options) (global_lines above) section.lines ∙ ap (λ r. options_from r section.lines) globals ∙ says in
    let mine : o ≡ (job_asked above section).options = options_read (effective_lines above section) o whole in
    let all = later (record s { tally = and_job s.tally o section.line }) more is in
    (ap (λ x. tally_from (and_job s.tally x section.line) jobs) (sym mine) ∙ all.0, (λ h. whole ∙ ap (λ x. Ok x) mine, all.1))

surveyed-from : (only : Option (List ℕ)) (above rest : List SectionText) (s end : Survey) → options_from (Ok default_options) (global_lines above) ≡ Ok s.globals → survey_from only (Ok s) rest ≡ Ok end → (tally_from s.tally (jobs_below only above rest) ≡ end.tally) × AreRead only above rest
unfolding after
surveyed-from only above [] s end globals is = let e : s ≡ end = cc in (ap (λ (x : Survey). x.tally) e, tt)
surveyed-from only above (section ∷ rest) s end globals is =
    let more = ap (λ ls. options_from (Ok default_options) ls) (global_lines-more above section)
    ∙ options_from-append (Ok default_options) (global_lines above) (cond (is_global section) section.lines [])
    ∙ ap (λ r. options_from r (cond (is_global section) section.lines [])) globals in
    step only above rest section s end (jobs_below only (above ++ section ∷ []) rest) (AreRead only (above ++ section ∷ []) rest) (is_global section) (is_named only section) (options_from (Ok s.globals) section.lines) refl globals more is
    (λ next g i. surveyed-from only (above ++ section ∷ []) rest next end g i)

tallied : (only : Option (List ℕ)) (sections : List SectionText) (tally : Tally) (read : Result Survey JobFault) → survey_from only (Ok first_survey) sections ≡ read → tally_in read ≡ Ok tally → (tally_from first_survey.tally (jobs_below only [] sections) ≡ tally) × AreRead only [] sections
tallied only sections tally (Err f) says is = absurd (cc)
tallied only sections tally (Ok end) says is =
    let all = surveyed-from only [] sections first_survey end refl says in
    let e : end.tally ≡ tally = cc in
    (all.0 ∙ e, all.1)

-- what a survey without a faulty line has found
pub surveyed : (only : Option (List ℕ)) (sections : List SectionText) (tally : Tally) → tally_in (survey_from only (Ok first_survey) sections) ≡ Ok tally → (tally_from first_survey.tally (jobs_below only [] sections) ≡ tally) × AreRead only [] sections
surveyed only sections tally is = tallied only sections tally (survey_from only (Ok first_survey) sections) refl is
