-- Believed: what the faults print, with what to write instead.
use Rattle.std.specs.Prelude.{ℕ, List, [], ◌++◌, Option, Some, None, codes}
use Rattle.jr_model.specs.Plan.{SubJob, Plan, clone_of}
use Rattle.jr_after_plans.specs.declared.faults.AfterFault.{AfterFault}
use Rattle.jr_after_plans.specs.declared.faults.Refusal.{Refusal}
use Rattle.jr_after_plans.specs.declared.faults.Refusal.TheVariants as refusal

abbrev pub refusal_text : Refusal → List ℕ
refusal_text refusal.Unordered = codes "the order of its writes isn't known: write serialize_overlap=1"
refusal_text refusal.NoDigest = codes "its blocks don't say whose they are: write verify=md5, verify=sha1 or verify=sha256"
refusal_text refusal.SeveralSizes = codes "its blocks have several sizes: write verify_interval=512"
refusal_text refusal.OtherGrid = codes "its chunks have other places than an earlier job's in the file: write verify_interval=512 in both"

-- the name of a clone's job
abbrev pub job_name : Option SubJob → List ℕ
job_name None = []
job_name (Some job) = job.job

-- the fault of a plan, by the name of the job
abbrev pub after_fault_text : Plan → AfterFault → List ℕ
after_fault_text plan fault = codes "ledger: job " ++ job_name (clone_of plan fault.clone) ++ codes ": " ++ refusal_text fault.why
