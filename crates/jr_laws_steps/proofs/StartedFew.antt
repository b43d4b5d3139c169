-- A run starts so few I/Os that their numbers are 32-bit numbers.
use Rattle.std.proofs.Common.{◌≡◌, ℕ, ◌+◌, ◌*◌, ◌^◌, ◌≤◌, List, [], ◌∷◌, length, true, map, sum, arith, refl}
use Rattle.std.specs.Prelude.{fold}
use Rattle.jr_model.specs.declared.events.Event.{Event}
use Rattle.jr_model.specs.History.{started}
use Rattle.jr_model.specs.Legal.{is_legal}
use Rattle.jr_model.specs.Plan.{Plan, SubJob}
use Rattle.jr_model.specs.PlanFacts.{IsPlanned}
use Rattle.jr_model.specs.PlanFacts as facts
use Rattle.jr_laws_steps.proofs.CountLaws.{started_few}

abbrev work_in : SubJob → ℕ
work_in job = job.cells * job.passes

fold-map : (n : ℕ) (clones : List SubJob) → fold ◌+◌ n (map work_in clones) ≡ fold (λ (a : ℕ). λ (job : SubJob). a + work_in job) n clones
fold-map n [] = refl
fold-map n (job ∷ clones) = fold-map (n + work_in job) clones

-- the work of a plan, counted either way
pub work-same : (clones : List SubJob) → sum (map (λ (job : SubJob). job.cells * job.passes) clones) ≡ facts.work_of clones
work-same clones = fold-map 0 clones

-- so few are started that their numbers are 32-bit numbers
pub started_small : (plan : Plan) (history : List Event) → IsPlanned plan → is_legal plan history ≡ true → length (started history) ≤ 2 ^ 31
started_small plan history planned legal =
    omega (arith, started_few plan history planned legal, work-same plan.clones, planned.drafted.work)
