-- A plan's clones by their numbers, and a clone's passes.
use Rattle.std.proofs.Common.{◌≡◌, ℕ, ◌<◌, sym, ap, ◌∙◌, zero-add}
use Rattle.std.specs.Prelude.{Some, slice_get}
use Rattle.std.specs.List.{range_with_len}
use Rattle.jr_model.specs.Plan.{Plan, SubJob, IsNumbered, clone_of}
use Rattle.jr_model.specs.PlanFacts.{IsPlanned}
use Rattle.jr_model.specs.Rounds.{pass_of, passes_of}
use Rattle.jr_model.proofs.PlaceLemmas.{made_at, ranged_at}

-- each clone stands at its number
pub numbered_of : (plan : Plan) → IsPlanned plan → IsNumbered plan
numbered_of plan planned i job at = (planned.drafted.placed i job at).number

pub own_number : (plan : Plan) (c : ℕ) (job : SubJob) → IsPlanned plan → clone_of plan c ≡ Some job → c ≡ job.clone
own_number plan c job planned at = sym (numbered_of plan planned c job at)

pub own_place : (plan : Plan) (c : ℕ) (job : SubJob) → IsPlanned plan → clone_of plan c ≡ Some job → clone_of plan job.clone ≡ Some job
own_place plan c job planned at = ap (clone_of plan) (numbered_of plan planned c job at) ∙ at

-- pass p stands at place p
pub pass_at : (job : SubJob) (p : ℕ) → p < job.passes → slice_get (passes_of job) p ≡ Some (pass_of job p)
pass_at job p below =
    made_at (pass_of job) (range_with_len 0 job.passes) p p (ranged_at 0 job.passes p below ∙ ap Some (zero-add p))
