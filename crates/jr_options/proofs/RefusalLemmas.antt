-- The survey refuses by the first faulty line, else by the first job at fault, else by what is wrong with all jobs.
use Rattle.std.proofs.Common.{◌≡◌, ℕ, ◌+◌, ◌-◌, ◌*◌, ◌^◌, ◌≤◌, min, Bool, true, false, not, ◌&&◌, ◌||◌, cond, List, [], ◌∷◌, Option, Some, None, Result, Ok, Err, ap, ◌∙◌, sym, refl, arith, inl, inr}
use Rattle.std.specs.Prelude.{IfSome, filter, sum_by, nat_lt, ◌==◌, unwrap_or, is_some}
use Rattle.std.specs.List.{list_any}
use Rattle.std.specs.Option.{option_or}
use Rattle.std.specs.Result.{result_err}
use Rattle.std.proofs.lemmas.Bool.{cases_lt, eq-eqb, lt-ltb, le-ltb}
use Rattle.std.proofs.lemmas.List.Sums.{sum_by-cons}
use Rattle.std.proofs.Math.Bool.{or_assoc}
use Rattle.jr_model.specs.History.{first_given}
use Rattle.jr_model.specs.declared.workloads.EngineKind.{EngineKind}
use Rattle.jr_model.proofs.SerialLaws.{first_given-append}
use Rattle.jr_text.specs.Records.{LineText, SectionText}
use Rattle.jr_plan.specs.declared.faults.Bound.TheVariants as bound
use Rattle.jr_job_options.specs.declared.faults.JobFault.{JobFault}
use Rattle.jr_job_options.specs.declared.faults.JobFault.TheVariants as fault
use Rattle.jr_job_options.specs.declared.options.JobOptions.{JobOptions}
use Rattle.jr_options.specs.declared.surveys.Survey.{Survey}
use Rattle.jr_options.specs.declared.tallies.Tally.{Tally}
use Rattle.jr_job_options.specs.declared.settings.Setting.{Setting}
use Rattle.jr_job_options.specs.declared.shapes.Shape.{Shape}
use Rattle.jr_job_options.specs.Options.{options_from, and_setting, with_setting}
use Rattle.jr_options.specs.PlanOf.{JobAsked, jobs_below}
use Rattle.jr_options.specs.Refusals.{counts, lines_of, counting_lines, line_fault, job_fault, has_other_engine, are_mixed, clones_in, is_far, is_long, work_in, joint_fault, jobs_fault, refusal_of}
use Rattle.jr_job_options.specs.Settings.{setting_of}
use Rattle.jr_job_options.specs.Shapes.{shape_of}
use Rattle.jr_options.specs.Surveys.{is_global, is_named, is_planned, start_of, engine_number, is_other_engine, counted, and_shape, and_job, empty_tally, tally_fault, first_survey, survey_from, tally_in, refusal_in, survey_refusal}
use Rattle.jr_job_options.proofs.OptionLemmas.{fault_stays}
use Rattle.jr_options.proofs.SectionLemmas.{survey_stays}
use Rattle.jr_job_options.proofs.ShapeLemmas.{shaped_as}
use Rattle.jr_options.proofs.SurveyLemmas.{tally_from, after, surveyed}

-- lines that are read one after another are refused by their first fault
lines_refused : (o : JobOptions) (lines : List LineText) → result_err (options_from (Ok o) lines) ≡ first_given line_fault lines
lines_refused o [] = refl
lines_refused o (line ∷ lines) = one (setting_of line) (λ x. lines_refused x lines)
  where
    one : (read : Result Setting JobFault) → ((x : JobOptions) → result_err (options_from (Ok x) lines) ≡ first_given line_fault lines) → result_err (options_from (and_setting o read) lines) ≡ option_or (result_err read) (first_given line_fault lines)
    one (Err f) rest = ap result_err (fault_stays f lines)
    one (Ok s) rest = rest (with_setting o s)

-- one section more
sections_step : (only : Option (List ℕ)) (s : Survey) (section : SectionText) (rest : List SectionText) (later : Option JobFault) (g n : Bool) (read : Result JobOptions JobFault) → result_err read ≡ first_given line_fault section.lines → ((next : Survey) → result_err (survey_from only (Ok next) rest) ≡ later) → result_err (survey_from only (cond (not g && not (not g && n)) (Ok s) (after g s section read)) rest) ≡ option_or (cond (g || (not g && n)) (first_given line_fault section.lines) None) later
unfolding after
sections_step only s section rest later true n (Err f) here below = ap result_err (survey_stays only f rest) ∙ ap (λ x. option_or x later) here
sections_step only s section rest later true n (Ok o) here below = below (record s { globals = o }) ∙ ap (λ x. option_or x later) here
sections_step only s section rest later false false read here below = below s
sections_step only s section rest later false true (Err f) here below = ap result_err (survey_stays only f rest) ∙ ap (λ x. option_or x later) here
sections_step only s section rest later false true (Ok o) here below = below (record s { tally = and_job s.tally o section.line }) ∙ ap (λ x. option_or x later) here

counted_first : (section : SectionText) (b : Bool) (rest : List SectionText) → first_given line_fault (lines_of (cond b (section ∷ rest) rest)) ≡ option_or (cond b (first_given line_fault section.lines) None) (first_given line_fault (lines_of rest))
counted_first section true rest = first_given-append line_fault section.lines (lines_of rest)
counted_first section false rest = refl

-- sections that are read one after another are refused by their first faulty line
sections_refused : (only : Option (List ℕ)) (s : Survey) (sections : List SectionText) → result_err (survey_from only (Ok s) sections) ≡ first_given line_fault (counting_lines only sections)
unfolding after
sections_refused only s [] = refl
sections_refused only s (section ∷ rest) =
    sections_step only s section rest (first_given line_fault (counting_lines only rest)) (is_global section) (is_named only section) (options_from (Ok s.globals) section.lines) (lines_refused s.globals section.lines) (λ next. sections_refused only next rest)
    ∙ sym (counted_first section (counts only section) (filter (counts only) rest))

or_none : (f : Option JobFault) → f ≡ option_or f None
or_none None = refl
or_none (Some f) = refl

or_group : (a b c : Option JobFault) → option_or (option_or a b) c ≡ option_or a (option_or b c)
or_group None b c = refl
or_group (Some f) b c = refl

-- the fault of a tally is that of its first job at fault
fault_from : (t : Tally) (jobs : List JobAsked) → (tally_from t jobs).fault ≡ option_or t.fault (first_given job_fault jobs)
fault_from t [] = or_none t.fault
fault_from t (job ∷ jobs) = one (shape_of job.options job.line) (λ next. fault_from next jobs)
  where
    one : (shape : Result Shape JobFault) → ((next : Tally) → (tally_from next jobs).fault ≡ option_or next.fault (first_given job_fault jobs)) → (tally_from (and_shape (counted t job.options) job.options shape) jobs).fault ≡ option_or t.fault (option_or (result_err shape) (first_given job_fault jobs))
    one (Err f) rest = rest (and_shape (counted t job.options) job.options (Err f)) ∙ or_group t.fault (Some f) (first_given job_fault jobs)
    one (Ok shape) rest = rest (and_shape (counted t job.options) job.options (Ok shape))

-- what a tally of sound jobs holds, from another tally on
record Sums (t : Tally) (kind : EngineKind) (jobs : List JobAsked) (all : Tally) : Type 0 where
  mixed : all.is_mixed ≡ (t.is_mixed || list_any (has_other_engine (engine_number kind)) jobs)
  clones : all.clones ≡ min (t.clones + sum_by clones_in jobs) 65
  far : all.is_far ≡ (t.is_far || list_any is_far jobs)
  long : all.is_long ≡ (t.is_long || list_any is_long jobs)
  work : all.work ≡ min (t.work + sum_by work_in jobs) 1073741825

either_end : (a : Bool) → a ≡ (a || false)
either_end true = refl
either_end false = refl

sums_step : (t : Tally) (kind : EngineKind) (job : JobAsked) (jobs : List JobAsked) (shape : Result Shape JobFault) → shape_of job.options job.line ≡ shape → is_other_engine t.engine job.options.engine ≡ has_other_engine (engine_number kind) job → unwrap_or t.engine job.options.engine ≡ kind → option_or (result_err shape) (first_given job_fault jobs) ≡ None → ((next : Tally) → next.engine ≡ Some kind → next.clones ≤ 65 → next.work ≤ 1073741825 → first_given job_fault jobs ≡ None → Sums next kind jobs (tally_from next jobs)) → Sums t kind (job ∷ jobs) (tally_from (and_shape (counted t job.options) job.options shape) jobs)
sums_step t kind job jobs (Err f) shaped other engine none rest = absurd (cc)
sums_step t kind job jobs (Ok shape) shaped other engine none rest =
    let o = job.options in
    let next = and_shape (counted t o) o (Ok shape) in
    let same = shaped_as o job.line shape shaped in
    let kept : next.engine ≡ Some kind = ap (λ e. Some e) engine in
    let fewer : min (t.clones + o.clones) 65 ≤ 65 = omega arith in
    let less : min (t.work + shape.cells * o.passes * o.clones) 1073741825 ≤ 1073741825 = omega arith in
    let h = rest next kept fewer less none in
    let clones = sum_by-cons clones_in job jobs in
    let work = sum_by-cons work_in job jobs in
    let visits : shape.cells * o.passes * o.clones ≡ work_in job = ap (λ (s : Shape). s.cells * o.passes * o.clones) same in
    let clones_then : (tally_from next jobs).clones ≡ min (min (t.clones + o.clones) 65 + sum_by clones_in jobs) 65 = h.clones in
    let work_then : (tally_from next jobs).work ≡ min (min (t.work + shape.cells * o.passes * o.clones) 1073741825 + sum_by work_in jobs) 1073741825 = h.work in
    record {
      mixed = h.mixed ∙ ap (λ b. (t.is_mixed || b) || list_any (has_other_engine (engine_number kind)) jobs) other ∙ or_assoc t.is_mixed (has_other_engine (engine_number kind) job) (list_any (has_other_engine (engine_number kind)) jobs);
      clones = omega (arith, clones_then, clones);
      far = h.far ∙ ap (λ (s : Shape). (t.is_far || nat_lt (2 ^ 50) (start_of o (o.clones - 1) + s.size)) || list_any is_far jobs) same ∙ or_assoc t.is_far (is_far job) (list_any is_far jobs);
      long = h.long ∙ ap (λ (s : Shape). (t.is_long || nat_lt (2 ^ 24) s.cells) || list_any is_long jobs) same ∙ or_assoc t.is_long (is_long job) (list_any is_long jobs);
      work = omega (arith, work_then, work, visits);
    }

sums : (t : Tally) (kind : EngineKind) (jobs : List JobAsked) → t.engine ≡ Some kind → t.clones ≤ 65 → t.work ≤ 1073741825 → first_given job_fault jobs ≡ None → Sums t kind jobs (tally_from t jobs)
sums t kind [] engine clones work none = record {
  mixed = either_end t.is_mixed;
  clones = omega (arith, clones);
  far = either_end t.is_far;
  long = either_end t.is_long;
  work = omega (arith, work);
}
sums t kind (job ∷ jobs) engine clones work none =
    let o = job.options in
    sums_step t kind job jobs (shape_of o job.line) refl (ap (λ e. is_other_engine e o.engine) engine) (ap (λ e. unwrap_or e o.engine) engine) none (λ next e c w n. sums next kind jobs e c w n)

-- the cap of a sum, one above the most, hides nothing
cap_hides_nothing : (most n : ℕ) → nat_lt most (min n (most + 1)) ≡ nat_lt most n
cap_hides_nothing most n =
    elim (cases_lt most n) [
      | inl over ↦ lt-ltb most (min n (most + 1)) (omega (arith, over)) ∙ sym (lt-ltb most n over)
      | inr within ↦ le-ltb most (min n (most + 1)) (omega (arith, within)) ∙ sym (le-ltb most n within)
    ]

-- of all jobs, by the first one's engine
first_sums : (job : JobAsked) (jobs : List JobAsked) → first_given job_fault (job ∷ jobs) ≡ None → Sums empty_tally job.options.engine (job ∷ jobs) (tally_from empty_tally (job ∷ jobs))
first_sums job jobs none =
    let o = job.options in
    let same : false ≡ not (engine_number o.engine == engine_number o.engine) = sym (ap not (eq-eqb (engine_number o.engine) (engine_number o.engine) refl)) in
    sums_step empty_tally o.engine job jobs (shape_of o job.line) refl same refl none (λ next e c w n. sums next o.engine jobs e c w n)

none_before : (n : ℕ) → 0 + n ≡ n
none_before n = omega arith

-- the first of these that holds
abbrev first_of : Option JobFault → Bool → Bool → Bool → Bool → Bool → Option JobFault
first_of f mixed many far long much =
    cond (is_some f) f (cond mixed (Some fault.MixedEngines) (cond many (Some (fault.Limit bound.Clones)) (cond far (Some (fault.Limit bound.Region)) (cond long (Some (fault.Limit bound.Cells)) (cond much (Some (fault.Limit bound.Work)) None)))))

joined : (job : JobAsked) (jobs : List JobAsked) (f : Option JobFault) → first_given job_fault (job ∷ jobs) ≡ f → tally_fault (tally_from empty_tally (job ∷ jobs)) ≡ option_or f (joint_fault (job ∷ jobs))
unfolding tally_fault
joined job jobs (Some f) is =
    let t = tally_from empty_tally (job ∷ jobs) in
    ap (λ x. first_of x t.is_mixed (nat_lt 64 t.clones) t.is_far t.is_long (nat_lt 1073741824 t.work)) (fault_from empty_tally (job ∷ jobs) ∙ is)
joined job jobs None is =
    let all = job ∷ jobs in
    let t = tally_from empty_tally all in
    let h = first_sums job jobs is in
    let clones : t.clones ≡ min (sum_by clones_in all) 65 = h.clones ∙ ap (λ n. min n 65) (none_before (sum_by clones_in all)) in
    let work : t.work ≡ min (sum_by work_in all) 1073741825 = h.work ∙ ap (λ n. min n 1073741825) (none_before (sum_by work_in all)) in
    let many = ap (nat_lt 64) clones ∙ cap_hides_nothing 64 (sum_by clones_in all) in
    let much = ap (nat_lt 1073741824) work ∙ cap_hides_nothing 1073741824 (sum_by work_in all) in
    ap (λ x. first_of x t.is_mixed (nat_lt 64 t.clones) t.is_far t.is_long (nat_lt 1073741824 t.work)) (fault_from empty_tally all ∙ is)
    ∙ ap (λ b. first_of None b (nat_lt 64 t.clones) t.is_far t.is_long (nat_lt 1073741824 t.work)) h.mixed
    ∙ ap (λ b. first_of None (are_mixed all) b t.is_far t.is_long (nat_lt 1073741824 t.work)) many
    ∙ ap (λ b. first_of None (are_mixed all) (nat_lt 64 (sum_by clones_in all)) b t.is_long (nat_lt 1073741824 t.work)) h.far
    ∙ ap (λ b. first_of None (are_mixed all) (nat_lt 64 (sum_by clones_in all)) (list_any is_far all) b (nat_lt 1073741824 t.work)) h.long
    ∙ ap (λ b. first_of None (are_mixed all) (nat_lt 64 (sum_by clones_in all)) (list_any is_far all) (list_any is_long all) b) much

-- the tally of all jobs has their first fault
tally_refused : (jobs : List JobAsked) → tally_fault (tally_from empty_tally jobs) ≡ jobs_fault jobs
unfolding tally_fault
tally_refused [] = refl
tally_refused (job ∷ jobs) = joined job jobs (first_given job_fault (job ∷ jobs)) refl

-- what is refused once there are jobs
found : (only : Option (List ℕ)) (sections : List SectionText) (read : Result Survey JobFault) → survey_from only (Ok first_survey) sections ≡ read → refusal_in (tally_in read) ≡ option_or (first_given line_fault (counting_lines only sections)) (jobs_fault (jobs_below only [] sections))
found only sections (Err f) is =
    ap (λ x. option_or x (jobs_fault (jobs_below only [] sections))) (ap result_err (sym is) ∙ sections_refused only first_survey sections)
found only sections (Ok end) is =
    let jobs = jobs_below only [] sections in
    let sound : None ≡ first_given line_fault (counting_lines only sections) = ap result_err (sym is) ∙ sections_refused only first_survey sections in
    ap tally_fault (sym (surveyed only sections end.tally (ap tally_in is)).0) ∙ tally_refused jobs ∙ ap (λ x. option_or x (jobs_fault jobs)) sound

-- the reader's pass refuses as the list of refusals says
pub refused_as : (sections : List SectionText) (only : Option (List ℕ)) → refusal_of sections only ≡ survey_refusal sections only
unfolding survey_refusal refusal_of
refused_as sections only =
    sym (ap (λ r. cond (not (list_any (λ section. not (is_global section)) sections)) (Some fault.NoJob) (cond (not (list_any (is_planned only) sections)) (Some fault.NoSection) r)) (found only sections (survey_from only (Ok first_survey) sections) refl))

-- the answer by whether there is a job, whether one is planned, and what comes then
abbrev answer : Bool → Bool → Option JobFault → Option JobFault
answer has_job has_planned then = cond (not has_job) (Some fault.NoJob) (cond (not has_planned) (Some fault.NoSection) then)

abbrev surveyed_refusal : List SectionText → Option (List ℕ) → Option JobFault
surveyed_refusal sections only = refusal_in (tally_in (survey_from only (Ok first_survey) sections))

pub no_job : (sections : List SectionText) (only : Option (List ℕ)) → list_any (λ section. not (is_global section)) sections ≡ false → refusal_of sections only ≡ Some fault.NoJob
unfolding survey_refusal
no_job sections only none =
    refused_as sections only ∙ ap (λ b. answer b (list_any (is_planned only) sections) (surveyed_refusal sections only)) none

pub no_section : (sections : List SectionText) (only : Option (List ℕ)) → list_any (λ section. not (is_global section)) sections ≡ true → list_any (is_planned only) sections ≡ false → refusal_of sections only ≡ Some fault.NoSection
unfolding survey_refusal
no_section sections only some none =
    refused_as sections only
    ∙ ap (λ b. answer b (list_any (is_planned only) sections) (surveyed_refusal sections only)) some
    ∙ ap (λ b. answer true b (surveyed_refusal sections only)) none

-- what the pass finds is the refusal
pub passed : (sections : List SectionText) (only : Option (List ℕ)) (start : Survey) (read : Result Tally JobFault) → list_any (λ section. not (is_global section)) sections ≡ true → list_any (is_planned only) sections ≡ true → start ≡ first_survey → read ≡ tally_in (survey_from only (Ok start) sections) → refusal_of sections only ≡ refusal_in read
unfolding survey_refusal
passed sections only start read some planned first is =
    refused_as sections only
    ∙ ap (λ b. answer b (list_any (is_planned only) sections) (surveyed_refusal sections only)) some
    ∙ ap (λ b. answer true b (surveyed_refusal sections only)) planned
    ∙ sym (ap refusal_in (is ∙ ap (λ s. tally_in (survey_from only (Ok s) sections)) first))

-- an answer of this fault is that of the refusal
pub same_fault : (P : Type 0) (refusal : Option JobFault) (f : JobFault) → refusal ≡ Some f → IfSome refusal (λ x. ◌≡◌ {A = Result P JobFault} (Err f) (Err x))
same_fault P None f is = absurd (cc)
same_fault P (Some g) f is = let e : f ≡ g = cc in ap (λ x. Err x) e

pub never_memory : (refusal : Option JobFault) (f g : JobFault) → refusal ≡ Some f → refusal ≡ None → f ≡ g
never_memory refusal f g is none = absurd (cc)

pub none_refused : (refusal : Option JobFault) (P : JobFault → Type 0) → refusal ≡ None → IfSome refusal P
none_refused None P is = tt
none_refused (Some f) P is = absurd (cc)
