-- How many bytes a clone's part of a run has at the most.
use Rattle.std.proofs.Common.{◌≡◌, ℕ, ◌+◌, ◌*◌, ◌/◌, ◌≤◌, List, subst, arith}
use Rattle.std.specs.Prelude.{Some, slice_get}
use Rattle.std.proofs.Math.Nat.{mul-le-mul_right}
use Rattle.std.proofs.lemmas.List.Sums.{get_or-le-sum_by}
use Rattle.std.proofs.lemmas.Option.{get_or_from_slice_get, slice_get_within}
use Rattle.jr_model.specs.Plan.{SubJob}
use Rattle.jr_model.specs.PlanFacts.{work_of}

-- a clone's passes visit no more cells than those of all
pub visits_within : (clones : List SubJob) (i : ℕ) (job : SubJob) → slice_get clones i ≡ Some job → job.cells * job.passes ≤ work_of clones
visits_within clones i job at =
    let Fits : SubJob → Type 0 = λ j. j.cells * j.passes ≤ work_of clones in
    let each = get_or-le-sum_by (λ (j : SubJob). j.cells * j.passes) clones i job (slice_get_within clones i job at) in
    subst Fits (get_or_from_slice_get clones i job job at) each

-- so many visits of cells so large
pub own_most : (visits cell : ℕ) → visits ≤ 1073741824 → cell ≤ 16777216 → visits * cell ≤ 18014398509481984
own_most visits cell few small =
    let each : visits * cell ≤ 1073741824 * cell = mul-le-mul_right cell few in omega arith

pub percent_most : (own percent : ℕ) → own ≤ 18014398509481984 → percent ≤ 100 → own * percent ≤ 1801439850948198400
percent_most own percent few small =
    let each : own * percent ≤ 18014398509481984 * percent = mul-le-mul_right percent few in omega arith

-- with what is read back, which is no more
pub with_checks_most : (own percent : ℕ) → own ≤ 18014398509481984 → percent ≤ 100 → own + own * percent / 100 ≤ 36028797018963968
with_checks_most own percent few small =
    let each = percent_most own percent few small in omega arith
