-- How the clones of jobs come one after another.
use Rattle.std.proofs.Common.{◌≡◌, ℕ, zero, suc, ◌+◌, ◌-◌, ◌*◌, ◌^◌, ◌<◌, ◌≤◌, cond, List, [], ◌∷◌, ◌++◌, length, take, replicate, map, flat_map, ap, ◌∙◌, sym, refl, arith, append_assoc}
use Rattle.std.specs.Prelude.{fold}
use Rattle.std.specs.List.{enumerate_from}
use Rattle.std.proofs.Math.Seq.{take-append-add}
use Rattle.std.proofs.Math.Nat.{mul-add}
use Rattle.std.proofs.lemmas.List.{length_push}
use Rattle.std.proofs.lemmas.List.Sums.{sum_by-append, fold-append}
use Rattle.jr_model.specs.Plan.{SubJob}
use Rattle.jr_options.specs.declared.planned.PlannedJob.{PlannedJob}
use Rattle.jr_options.specs.Planned.{workload_of}
use Rattle.jr_plan.specs.Clones.{planned_clone}
use Rattle.jr_plan.specs.Drafts.{Clones, with_clone}
use Rattle.jr_plan.specs.Files.{file_place}
use Rattle.jr_model.specs.PlanFacts.{work_of}
use Rattle.jr_options.specs.PlanOf.{JobAsked, PhasedJob, HasRoom, stonewalls, clones_asked, planned_as, with_asked, no_clones, clones_of, file_of}
use Rattle.jr_job_options.specs.Shapes.{shape_in}
use Rattle.jr_options.specs.Surveys.{start_of}

-- the cells that all passes of one clone of a job visit
abbrev pub visits_each : PhasedJob → ℕ
visits_each p = (shape_in p.job.options).cells * p.job.options.passes

one_longer : (d : Clones) (p : PhasedJob) (index : ℕ) → length (with_asked d (index, p)).clones ≡ length d.clones + 1
one_longer d p index =
    omega (arith, length_push d.clones (planned_clone (workload_of (planned_as p)) p.job.name (length d.clones) (file_place d.files (file_of p.job index)) (start_of p.job.options index)))

one_more : (d : Clones) (p : PhasedJob) (index : ℕ) → work_of (with_asked d (index, p)).clones ≡ work_of d.clones + visits_each p
one_more d p index =
    let job = planned_clone (workload_of (planned_as p)) p.job.name (length d.clones) (file_place d.files (file_of p.job index)) (start_of p.job.options index) in
    let all = sum_by-append (λ (j : SubJob). j.cells * j.passes) d.clones (job ∷ []) in
    let one : work_of (job ∷ []) ≡ 0 + visits_each p = refl in
    omega (arith, all, one)

length-asked : (d : Clones) (p : PhasedJob) (index count : ℕ) → length (fold with_asked d (enumerate_from index (replicate count p))).clones ≡ length d.clones + count
length-asked d p index zero = omega arith
length-asked d p index (suc count) = omega (arith, length-asked (with_asked d (index, p)) p (index + 1) count, one_longer d p index)

work-asked : (d : Clones) (p : PhasedJob) (index count : ℕ) → work_of (fold with_asked d (enumerate_from index (replicate count p))).clones ≡ work_of d.clones + visits_each p * count
work-asked d p index zero = omega arith
work-asked d p index (suc count) = omega (arith, work-asked (with_asked d (index, p)) p (index + 1) count, one_more d p index)

-- so many clones, and so much work, once those of a job come
pub clones_more : (d : Clones) (p : PhasedJob) → length (fold with_asked d (clones_asked p)).clones ≡ length d.clones + p.job.options.clones
clones_more d p = length-asked d p 0 p.job.options.clones

pub work_more : (d : Clones) (p : PhasedJob) → work_of (fold with_asked d (clones_asked p)).clones ≡ work_of d.clones + visits_each p * p.job.options.clones
work_more d p = work-asked d p 0 p.job.options.clones

-- the clones of a job from a place on are still to come
pub record AreAdding (p : PhasedJob) (index : ℕ) (d all : Clones) : Type 0 where
  pub made : fold with_asked d (enumerate_from index (replicate (p.job.options.clones - index) p)) ≡ all
  pub count : length d.clones + (p.job.options.clones - index) ≤ 64
  pub work : work_of d.clones + visits_each p * (p.job.options.clones - index) ≤ 2 ^ 30

pub adding-first : (p : PhasedJob) (d : Clones) → HasRoom d (planned_as p) → AreAdding p 0 d (fold with_asked d (clones_asked p))
adding-first p d room =
    let none : p.job.options.clones - 0 ≡ p.job.options.clones = omega arith in
    record {
      made = ap (λ n. fold with_asked d (enumerate_from 0 (replicate n p))) none;
      count = omega (arith, room.count);
      work = let e = ap (λ n. visits_each p * n) none in omega (arith, room.work, e);
    }

-- there is room for the next one
pub adding-room : (p : PhasedJob) (index : ℕ) (d all : Clones) → AreAdding p index d all → index < p.job.options.clones → (length d.clones < 64) × (work_of d.clones + visits_each p ≤ 2 ^ 30)
adding-room p index d all h within =
    let left : p.job.options.clones - index ≡ p.job.options.clones - (index + 1) + 1 = omega arith in
    let e = ap (λ n. visits_each p * n) left in
    (omega (arith, h.count), omega (arith, h.work, e, mul-add (visits_each p) (p.job.options.clones - (index + 1)) 1))

pub adding-next : (p : PhasedJob) (index : ℕ) (d next all : Clones) → AreAdding p index d all → index < p.job.options.clones → next ≡ with_asked d (index, p) → AreAdding p (index + 1) next all
adding-next p index d next all h within is =
    let rest = p.job.options.clones - (index + 1) in
    let left : p.job.options.clones - index ≡ suc rest = omega arith in
    let e = ap (λ n. visits_each p * n) left in
    let longer = ap (λ (x : Clones). length x.clones) is ∙ one_longer d p index in
    let more = ap (λ (x : Clones). work_of x.clones) is ∙ one_more d p index in
    record {
      made =
          ap (λ x. fold with_asked x (enumerate_from (index + 1) (replicate rest p))) is
          ∙ sym (ap (λ n. fold with_asked d (enumerate_from index (replicate n p))) left)
          ∙ h.made;
      count = omega (arith, h.count, longer, left);
      work = omega (arith, h.work, more, e);
    }

pub adding-done : (p : PhasedJob) (index : ℕ) (d all : Clones) → AreAdding p index d all → p.job.options.clones ≤ index → d ≡ all
adding-done p index d all h past =
    let none : p.job.options.clones - index ≡ 0 = omega arith in
    sym (ap (λ n. fold with_asked d (enumerate_from index (replicate n p))) none) ∙ h.made

-- one clone of a job, by what it was made of
pub asked_as : (d next : Clones) (job : PlannedJob) (p : PhasedJob) (name file : List ℕ) (start index : ℕ) → next ≡ with_clone d (workload_of job) name file start → job ≡ planned_as p → name ≡ p.job.name → file ≡ file_of p.job index → start ≡ start_of p.job.options index → next ≡ with_asked d (index, p)
asked_as d next job p name file start index is e1 e2 e3 e4 =
    is
    ∙ ap (λ x. with_clone d (workload_of x) name file start) e1
    ∙ ap (λ x. with_clone d (workload_of (planned_as p)) x file start) e2
    ∙ ap (λ x. with_clone d (workload_of (planned_as p)) p.job.name x start) e3
    ∙ ap (λ x. with_clone d (workload_of (planned_as p)) p.job.name (file_of p.job index) x) e4

-- the clones of jobs, each after those of the jobs before it, and in their phases
abbrev pub next_phase : ℕ → JobAsked → ℕ
next_phase phase job = phase + cond job.options.stonewall 1 0

abbrev pub with_jobs : Clones → ℕ → List JobAsked → Clones
with_jobs d phase [] = d
with_jobs d phase (job ∷ jobs) =
    with_jobs (fold with_asked d (clones_asked (record { phase = next_phase phase job; job = job }))) (next_phase phase job) jobs

-- the jobs of a list from place n on, each with its phase
phased_from : List JobAsked → ℕ → List JobAsked → List PhasedJob
phased_from all n jobs = map (λ (p : ℕ × JobAsked). record { phase = stonewalls (take (p.0 + 1) all); job = p.1 }) (enumerate_from n jobs)

phases : (all done jobs : List JobAsked) (d : Clones) (n phase : ℕ) → all ≡ done ++ jobs → n ≡ length done → phase ≡ stonewalls done → fold with_asked d (flat_map clones_asked (phased_from all n jobs)) ≡ with_jobs d phase jobs
unfolding phased_from
phases all done [] d n phase whole placed counted = refl
phases all done (job ∷ jobs) d n phase whole placed counted =
    let more = stonewalls (take (n + 1) all) in
    let front : take (n + 1) all ≡ done ++ job ∷ [] =
    ap (λ k. take (k + 1) all) placed ∙ ap (λ xs. take (length done + 1) xs) whole ∙ take-append-add done (job ∷ jobs) 1 in
    let all_sum = sum_by-append (λ (j : JobAsked). cond j.options.stonewall 1 0) done (job ∷ []) in
    let one : stonewalls (job ∷ []) ≡ 0 + cond job.options.stonewall 1 0 = refl in
    let sum = ap stonewalls front in
    let next : more ≡ next_phase phase job = omega (arith, all_sum, one, sum, counted) in
    let longer = length_push done job in
    let here : PhasedJob = record { phase = more; job = job } in
    fold-append with_asked d (clones_asked here) (flat_map clones_asked (phased_from all (n + 1) jobs))
    ∙ phases all (done ++ job ∷ []) jobs (fold with_asked d (clones_asked here)) (n + 1) more (whole ∙ sym (append_assoc done (job ∷ []) jobs)) (omega (arith, longer, placed)) (sum)
    ∙ ap (λ k. with_jobs (fold with_asked d (clones_asked (record { phase = k; job = job }))) k jobs) next

-- each job's phase is the number of stonewalls so far
pub clones_of-jobs : (jobs : List JobAsked) → clones_of jobs ≡ with_jobs no_clones 0 jobs
unfolding phased_from
clones_of-jobs jobs = phases jobs [] jobs no_clones 0 0 refl refl refl
