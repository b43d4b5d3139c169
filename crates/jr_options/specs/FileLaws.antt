-- Claimed: how far the files of a plan reach: from the least start to the greatest end of the clones that use them (of this
-- project).
use Rattle.std.specs.Prelude.{◌≡◌, ℕ, ◌+◌, ◌*◌, ◌≤◌, ◌==◌, List, map, filter, Option, Some, slice_get, All, Contains}
use Rattle.jr_model.specs.Plan.{SubJob, FileSpec}
use Rattle.jr_text.specs.Records.{SectionText}
use Rattle.jr_options.specs.PlanOf.{plan_of}

-- the clones that use the file at this place
abbrev pub users_of : ℕ → List SubJob → List SubJob
users_of file clones = filter (λ (job : SubJob). job.file == file) clones

-- where a clone's region begins, and where its cells end
abbrev pub start_in : SubJob → ℕ
start_in job = job.start

abbrev pub end_in : SubJob → ℕ
end_in job = job.start + job.cells * job.cell

-- one of some numbers, and none of them is less
abbrev pub IsLeast : ℕ → List ℕ → Type 0
IsLeast n ns = Contains ns n × All (λ m. n ≤ m) ns

-- one of some numbers, and none of them is greater
abbrev pub IsGreatest : ℕ → List ℕ → Type 0
IsGreatest n ns = Contains ns n × All (λ m. m ≤ n) ns

-- a planned file begins at the least start of the clones that use it
abbrev pub LowIsLeast : Type 0
LowIsLeast =
    (sections : List SectionText) (only : Option (List ℕ)) (f : ℕ) (file : FileSpec)
    → slice_get (plan_of sections only).files f ≡ Some file
    → IsLeast file.low (map start_in (users_of f (plan_of sections only).clones))

-- and ends at their greatest end
abbrev pub HighIsGreatest : Type 0
HighIsGreatest =
    (sections : List SectionText) (only : Option (List ℕ)) (f : ℕ) (file : FileSpec)
    → slice_get (plan_of sections only).files f ≡ Some file
    → IsGreatest file.high (map end_in (users_of f (plan_of sections only).clones))
