-- Where the tally of some jobs shows no fault, each job fits the limits, and so do all together.
use Rattle.std.proofs.Common.{◌≡◌, ℕ, ◌+◌, ◌-◌, ◌*◌, ◌^◌, ◌≤◌, min, max, Bool, true, false, cond, List, [], ◌∷◌, Option, Some, None, Result, Ok, Err, ap, ◌∙◌, subst, refl, arith}
use Rattle.std.specs.Prelude.{nat_lt, is_some, unwrap_or, fold}
use Rattle.std.specs.Option.{option_or}
use Rattle.std.proofs.lemmas.Bool.{or_parts, ltb-false}
use Rattle.jr_model.specs.declared.workloads.EngineKind.{EngineKind}
use Rattle.jr_model.specs.declared.workloads.EngineKind.TheVariants as engine
use Rattle.jr_plan.specs.declared.faults.Bound.TheVariants as bound
use Rattle.jr_job_options.specs.declared.faults.JobFault.{JobFault}
use Rattle.jr_job_options.specs.declared.faults.JobFault.TheVariants as fault
use Rattle.jr_job_options.specs.declared.options.JobOptions.{JobOptions}
use Rattle.jr_options.specs.declared.tallies.Tally.{Tally}
use Rattle.jr_job_options.specs.declared.shapes.Shape.{Shape}
use Rattle.jr_options.specs.PlanOf.{JobAsked, engine_of, verifiers_of}
use Rattle.jr_job_options.specs.Shapes.{shape_of, shape_in}
use Rattle.jr_options.specs.Surveys.{start_of, counted, and_shape, and_job, empty_tally, tally_fault}
use Rattle.jr_job_options.proofs.ShapeLemmas.{shaped_as}
use Rattle.jr_options.proofs.SurveyLemmas.{tally_from}

-- a job within the limits of one job
pub record JobFits (job : JobAsked) : Type 0 where
  pub shape : shape_of job.options job.line ≡ Ok (shape_in job.options)
  pub region : start_of job.options (job.options.clones - 1) + (shape_in job.options).size ≤ 2 ^ 50
  pub cells : (shape_in job.options).cells ≤ 2 ^ 24

-- what all passes of all its clones visit
abbrev pub visits_of : JobAsked → ℕ
visits_of job = (shape_in job.options).cells * job.options.passes * job.options.clones

-- jobs within the limits, behind so many clones with so much work
abbrev pub AllFit : ℕ → ℕ → List JobAsked → Type 0
AllFit clones work [] = (clones ≤ 64) × (work ≤ 2 ^ 30)
AllFit clones work (job ∷ jobs) = JobFits job × AllFit (clones + job.options.clones) (work + visits_of job) jobs

pub fit-before : (clones work : ℕ) (jobs : List JobAsked) → AllFit clones work jobs → (clones ≤ 64) × (work ≤ 2 ^ 30)
fit-before clones work [] h = h
fit-before clones work (job ∷ jobs) h =
    let more = fit-before (clones + job.options.clones) (work + visits_of job) jobs h.1 in
    (omega (arith, more.0), omega (arith, more.1))

-- a tally that shows no fault
record IsClean (t : Tally) : Type 0 where
  fault : t.fault ≡ None
  is_far : t.is_far ≡ false
  is_long : t.is_long ≡ false
  clones : t.clones ≤ 64
  work : t.work ≤ 2 ^ 30

clear : (f : Option JobFault) (b1 b2 b3 b4 b5 : Bool) (f1 f2 f3 f4 f5 : JobFault) → cond (is_some f) f (cond b1 (Some f1) (cond b2 (Some f2) (cond b3 (Some f3) (cond b4 (Some f4) (cond b5 (Some f5) None))))) ≡ None → (f ≡ None) × (b2 ≡ false) × (b3 ≡ false) × (b4 ≡ false) × (b5 ≡ false)
clear (Some f) b1 b2 b3 b4 b5 f1 f2 f3 f4 f5 is = absurd (cc)
clear None true b2 b3 b4 b5 f1 f2 f3 f4 f5 is = absurd (cc)
clear None false true b3 b4 b5 f1 f2 f3 f4 f5 is = absurd (cc)
clear None false false true b4 b5 f1 f2 f3 f4 f5 is = absurd (cc)
clear None false false false true b5 f1 f2 f3 f4 f5 is = absurd (cc)
clear None false false false false true f1 f2 f3 f4 f5 is = absurd (cc)
clear None false false false false false f1 f2 f3 f4 f5 is = (refl, refl, refl, refl, refl)

clean : (t : Tally) → tally_fault t ≡ None → IsClean t
unfolding tally_fault
clean t is =
    let all = clear t.fault t.is_mixed (nat_lt 64 t.clones) t.is_far t.is_long (nat_lt 1073741824 t.work) fault.MixedEngines (fault.Limit bound.Clones) (fault.Limit bound.Region) (fault.Limit bound.Cells) (fault.Limit bound.Work) is in
    record {
      fault = all.0;
      is_far = all.2;
      is_long = all.3;
      clones = ltb-false 64 t.clones all.1;
      work = ltb-false 1073741824 t.work all.4;
    }

-- what a clean tally says of the last job and of those before it
record Counted (t : Tally) (job : JobAsked) (next : Tally) : Type 0 where
  fits : JobFits job
  before : IsClean t
  clones : next.clones ≡ t.clones + job.options.clones
  work : next.work ≡ t.work + visits_of job

no_fault : (a : Option JobFault) (f : JobFault) → option_or a (Some f) ≡ None → ⊥
no_fault None f is = cc
no_fault (Some g) f is = cc

job_counted : (t : Tally) (job : JobAsked) (shape : Result Shape JobFault) → shape_of job.options job.line ≡ shape → IsClean (and_shape (counted t job.options) job.options shape) → Counted t job (and_shape (counted t job.options) job.options shape)
job_counted t job (Err f) shaped h = absurd (no_fault t.fault f h.fault)
job_counted t job (Ok shape) shaped h =
    let o = job.options in
    let same = shaped_as o job.line shape shaped in
    let far = or_parts t.is_far (nat_lt 1125899906842624 (start_of o (o.clones - 1) + shape.size)) h.is_far in
    let long = or_parts t.is_long (nat_lt 16777216 shape.cells) h.is_long in
    let size = ap (λ (s : Shape). s.size) same in
    let cells = ap (λ (s : Shape). s.cells) same in
    let visits = ap (λ n. n * o.passes * o.clones) cells in
    let region = ltb-false 1125899906842624 (start_of o (o.clones - 1) + shape.size) far.1 in
    let most = ltb-false 16777216 shape.cells long.1 in
    let clones_most : min (t.clones + o.clones) 65 ≤ 64 = h.clones in
    let work_most : min (t.work + shape.cells * o.passes * o.clones) 1073741825 ≤ 1073741824 = h.work in
    let clones_are : min (t.clones + o.clones) 65 ≡ t.clones + o.clones = omega (arith, clones_most) in
    let work_is : min (t.work + shape.cells * o.passes * o.clones) 1073741825 ≡ t.work + shape.cells * o.passes * o.clones = omega (arith, work_most) in
    record {
      fits = record { shape = shaped ∙ ap (λ s. Ok s) same; region = omega (arith, region, size); cells = omega (arith, most, cells) };
      before = record { fault = h.fault; is_far = far.0; is_long = long.0; clones = omega (arith, clones_most, clones_are); work = omega (arith, work_most, work_is) };
      clones = clones_are;
      work = omega (arith, work_is, visits);
    }

all_counted : (t : Tally) (jobs : List JobAsked) → IsClean (tally_from t jobs) → AllFit t.clones t.work jobs × IsClean t
all_counted t [] h = ((h.clones, h.work), h)
all_counted t (job ∷ jobs) h =
    let later = all_counted (and_job t job.options job.line) jobs h in
    let one = job_counted t job (shape_of job.options job.line) refl later.1 in
    let P : ℕ → Type 0 = λ n. AllFit n (and_job t job.options job.line).work jobs in
    let Q : ℕ → Type 0 = λ w. AllFit (t.clones + job.options.clones) w jobs in
    ((one.fits, subst Q one.work (subst P one.clones later.0)), one.before)

-- the jobs of a tally without a fault fit
pub all_fit : (jobs : List JobAsked) → tally_fault (tally_from empty_tally jobs) ≡ None → AllFit 0 0 jobs
all_fit jobs is = (all_counted empty_tally jobs (clean (tally_from empty_tally jobs) is)).0

-- a shape or its fault changes neither the engine nor the verifiers
engine_stays : (t : Tally) (o : JobOptions) (shape : Result Shape JobFault) → (and_shape t o shape).engine ≡ t.engine
engine_stays t o (Err f) = refl
engine_stays t o (Ok shape) = refl

verifiers_stay : (t : Tally) (o : JobOptions) (shape : Result Shape JobFault) → (and_shape t o shape).verifiers ≡ t.verifiers
verifiers_stay t o (Err f) = refl
verifiers_stay t o (Ok shape) = refl

engine_kept : (t : Tally) (jobs : List JobAsked) (kind : EngineKind) → t.engine ≡ Some kind → (tally_from t jobs).engine ≡ Some kind
engine_kept t [] kind is = is
engine_kept t (job ∷ jobs) kind is =
    engine_kept (and_job t job.options job.line) jobs kind
    (engine_stays (counted t job.options) job.options (shape_of job.options job.line) ∙ ap (λ e. Some (unwrap_or e job.options.engine)) is)

pub engine_is : (jobs : List JobAsked) → unwrap_or (tally_from empty_tally jobs).engine engine.File ≡ engine_of jobs
engine_is [] = refl
engine_is (job ∷ jobs) =
    ap (λ e. unwrap_or e engine.File) (engine_kept (and_job empty_tally job.options job.line) jobs job.options.engine (engine_stays (counted empty_tally job.options) job.options (shape_of job.options job.line)))

verifiers_from : (t : Tally) (jobs : List JobAsked) → (tally_from t jobs).verifiers ≡ fold (λ most (job : JobAsked). max most job.options.verifiers) t.verifiers jobs
verifiers_from t [] = refl
verifiers_from t (job ∷ jobs) =
    verifiers_from (and_job t job.options job.line) jobs
    ∙ ap (λ n. fold (λ most (other : JobAsked). max most other.options.verifiers) n jobs) (verifiers_stay (counted t job.options) job.options (shape_of job.options job.line))

pub verifiers_are : (jobs : List JobAsked) → (tally_from empty_tally jobs).verifiers ≡ verifiers_of jobs
verifiers_are jobs = verifiers_from empty_tally jobs
