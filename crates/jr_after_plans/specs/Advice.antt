-- Claimed: what the faults say to write helps (of this project).
use Rattle.std.specs.Prelude.{◌≡◌, true, false, None, All}
use Rattle.jr_model.specs.Directions.{has_writes}
use Rattle.jr_model.specs.Plan.{SubJob, Plan}
use Rattle.jr_model.specs.PlanFacts.{IsPlanned}
use Rattle.jr_after_plans.specs.Taken.{after_fault, has_digest}

-- the job has serialize_overlap=1, and if it writes a digest and verify_interval=512
abbrev pub IsAdvised : SubJob → Type 0
IsAdvised job =
    (job.declines ≡ false) × (has_writes job.io_type ≡ true → (has_digest job.method.kind ≡ true) × (job.method.interval ≡ 512))

-- a plan of such jobs is taken
abbrev pub AdviceHelps : Type 0
AdviceHelps = (plan : Plan) → IsPlanned plan → All IsAdvised plan.clones → after_fault plan ≡ None
