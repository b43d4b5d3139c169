-- Sums over the passes of a plan: they fall where one term falls, and are at most the plan's work.
use Rattle.std.proofs.Common.{◌≡◌, ℕ, zero, suc, ◌*◌, ◌<◌, ◌≤◌, List, [], ◌∷◌, length, Bool, true, false, cond, refl, sym, subst, arith}
use Rattle.std.specs.Prelude.{Some, slice_get, count_by, map}
use Rattle.std.specs.List.{range_with_len, sum_by}
use Rattle.std.proofs.lemmas.List.FromFn.{length-range_with_len}
use Rattle.std.proofs.lemmas.List.Sums.{sum_by-cons, sum_by-le-sum_by, sum-map}
use Rattle.std.proofs.lemmas.Option.{same_Some}
use Rattle.jr_model.specs.Machine.{work_of}
use Rattle.jr_model.specs.Plan.{Plan, SubJob, clone_of}
use Rattle.jr_model.specs.Rounds.{Pass, pass_of, passes_of}
use Rattle.jr_model.proofs.PlanLemmas.{pass_at}

-- a sum is less where no term is more and one is less
pub sum_by_less : {X : Type 0} (f g : X → ℕ) (xs : List X) (k : ℕ) (x : X) → ((y : X) → f y ≤ g y) → slice_get xs k ≡ Some x → f x < g x → sum_by f xs < sum_by g xs
sum_by_less f g [] k x most at less = cc
sum_by_less f g (y ∷ ys) zero x most at less =
    let here : f y < g y = subst (λ z. f z < g z) (sym (same_Some y x at)) less in
    omega (arith, sum_by-cons f y ys, sum_by-cons g y ys, here, sum_by-le-sum_by f g ys most)
sum_by_less f g (y ∷ ys) (suc k) x most at less =
    omega (arith, sum_by-cons f y ys, sum_by-cons g y ys, most y, sum_by_less f g ys k x most at less)

-- what a test counts for one item
one-le : (a b : Bool) → (a ≡ true → b ≡ true) → cond a 1 0 ≤ cond b 1 0
one-le true true h = omega arith
one-le true false h = let wrong : false ≡ true = h refl in cc
one-le false b h = omega arith

one-less : (a b : Bool) → a ≡ false → b ≡ true → cond a 1 0 < cond b 1 0
one-less false true fails passes = omega arith
one-less false false fails passes = cc
one-less true b fails passes = cc

-- a count is no more where each item that is counted was counted before
pub count_by_most : {X : Type 0} (p q : X → Bool) (xs : List X) → ((x : X) → p x ≡ true → q x ≡ true) → count_by p xs ≤ count_by q xs
count_by_most p q xs most =
    sum_by-le-sum_by (λ x. cond (p x) 1 0) (λ x. cond (q x) 1 0) xs (λ x. one-le (p x) (q x) (most x))

-- and less where one item is counted no more
pub count_by_less : {X : Type 0} (p q : X → Bool) (xs : List X) (k : ℕ) (x : X) → ((y : X) → p y ≡ true → q y ≡ true) → slice_get xs k ≡ Some x → p x ≡ false → q x ≡ true → count_by p xs < count_by q xs
count_by_less p q xs k x most at fails passes =
    sum_by_less (λ y. cond (p y) 1 0) (λ y. cond (q y) 1 0) xs k x (λ y. one-le (p y) (q y) (most y)) at (one-less (p x) (q x) fails passes)

-- a number of each pass, summed over the passes of a clone, and over the clones
abbrev pub sum_of_clone : (Pass → ℕ) → SubJob → ℕ
sum_of_clone f job = sum_by f (passes_of job)

abbrev pub sum_of_plan : (Pass → ℕ) → Plan → ℕ
sum_of_plan f plan = sum_by (sum_of_clone f) plan.clones

-- the sum is no more where no pass has more, and less where one of the plan's has less
pub sum_of_plan_most : (f g : Pass → ℕ) (plan : Plan) → ((pass : Pass) → f pass ≤ g pass) → sum_of_plan f plan ≤ sum_of_plan g plan
sum_of_plan_most f g plan most =
    sum_by-le-sum_by (sum_of_clone f) (sum_of_clone g) plan.clones
    (λ (job : SubJob). sum_by-le-sum_by f g (passes_of job) most)

pub sum_of_plan_less : (f g : Pass → ℕ) (plan : Plan) (c p : ℕ) (job : SubJob) → ((pass : Pass) → f pass ≤ g pass) → clone_of plan c ≡ Some job → p < job.passes → f (pass_of job p) < g (pass_of job p) → sum_of_plan f plan < sum_of_plan g plan
sum_of_plan_less f g plan c p job most at below less =
    sum_by_less (sum_of_clone f) (sum_of_clone g) plan.clones c job
    (λ (other : SubJob). sum_by-le-sum_by f g (passes_of other) most) at
    (sum_by_less f g (passes_of job) p (pass_of job p) most (pass_at job p below) less)

sum_of_passes : (f : Pass → ℕ) (job : SubJob) (m : ℕ) (numbers : List ℕ) → ((p : ℕ) → f (pass_of job p) ≤ m) → sum_by f (map (pass_of job) numbers) ≤ length numbers * m
sum_of_passes f job m [] most = omega arith
sum_of_passes f job m (p ∷ numbers) most =
    omega (arith, sum_by-cons f (pass_of job p) (map (pass_of job) numbers), most p, sum_of_passes f job m numbers most)

sum_of_clones : (f : Pass → ℕ) (jobs : List SubJob) → ((c : ℕ) (job : SubJob) (p : ℕ) → slice_get jobs c ≡ Some job → f (pass_of job p) ≤ job.cells) → sum_by (sum_of_clone f) jobs ≤ sum_by (λ (job : SubJob). job.cells * job.passes) jobs
sum_of_clones f [] most = omega arith
sum_of_clones f (job ∷ jobs) most =
    let work : SubJob → ℕ = λ (j : SubJob). j.cells * j.passes in
    let here = sum_of_passes f job job.cells (range_with_len 0 job.passes) (λ p. most 0 job p refl) in
    let count = length-range_with_len 0 job.passes in
    let within : sum_of_clone f job ≤ job.cells * job.passes = within_product (sum_of_clone f job) (length (range_with_len 0 job.passes)) job.passes job.cells here count in
    omega (arith, sum_by-cons (sum_of_clone f) job jobs, sum_by-cons work job jobs, within, sum_of_clones f jobs (λ c other p at. most (suc c) other p at))
  where
    within_product : (s n passes cells : ℕ) → s ≤ n * cells → n ≡ passes → s ≤ cells * passes
    within_product s n passes cells h e = omega (arith, subst (λ k. s ≤ k * cells) e h)

-- where each pass has at most a clone's cells, the sum is at most the work
pub sum_of_plan_within : (f : Pass → ℕ) (plan : Plan) → ((c : ℕ) (job : SubJob) (p : ℕ) → clone_of plan c ≡ Some job → f (pass_of job p) ≤ job.cells) → sum_of_plan f plan ≤ work_of plan
sum_of_plan_within f plan most =
    omega (arith, sum_of_clones f plan.clones most, sum-map (λ (job : SubJob). job.cells * job.passes) plan.clones)
