-- Believed: which plans may be judged after a cut, and why others may not (of this project).
use Rattle.std.specs.Prelude.{ℕ, ◌%◌, ◌==◌, Bool, true, false, not, ◌&&◌, ◌||◌, List, [], ◌∷◌, Option, Some, None, if◌then◌else◌}
use Rattle.std.specs.List.{list_all}
use Rattle.std.specs.Option.{option_map, option_or}
use Rattle.jr_model.specs.declared.contents.VerifyKind.{VerifyKind}
use Rattle.jr_model.specs.declared.contents.VerifyKind.TheVariants as verify
use Rattle.jr_model.specs.Directions.{has_writes}
use Rattle.jr_model.specs.Plan.{SubJob, Plan}
use Rattle.jr_after.specs.Findings.{first_such}
use Rattle.jr_after_plans.specs.declared.faults.AfterFault.{AfterFault}
use Rattle.jr_after_plans.specs.declared.faults.Refusal.{Refusal}
use Rattle.jr_after_plans.specs.declared.faults.Refusal.TheVariants as refusal

-- blocks of this kind have headers with a digest
abbrev pub has_digest : VerifyKind → Bool
has_digest verify.Plain = false
has_digest verify.Pattern = false
has_digest verify.Md5 = true
has_digest verify.Sha1 = true
has_digest verify.Sha256 = true

-- the split gives no other size than this one
abbrev pub has_one_size : ℕ → List (ℕ × ℕ) → Bool
has_one_size size split = list_all (λ (entry : ℕ × ℕ). (entry.1 == 0) || (entry.0 == size)) split

-- how long each chunk of the clone's writes is: its interval, or without one its only block size; 0 where there is none
abbrev pub chunk_len : SubJob → ℕ
chunk_len job =
    if job.method.interval == 0
    then (if has_one_size job.cell job.write_split then job.cell else 0)
    else job.method.interval

-- the chunks of two clones have the same places
abbrev pub has_same_grid : SubJob → SubJob → Bool
has_same_grid first job = (chunk_len first == chunk_len job) && (first.start % chunk_len job == job.start % chunk_len job)

-- the clone writes to this file
abbrev pub writes_to : ℕ → SubJob → Bool
writes_to file job = (job.file == file) && has_writes job.io_type

-- the first of these clones that does
abbrev pub first_writer : List SubJob → ℕ → Option SubJob
first_writer clones file = first_such (writes_to file) clones

abbrev pub is_on_grid : Option SubJob → SubJob → Bool
is_on_grid None job = true
is_on_grid (Some first) job = has_same_grid first job

-- why a clone among these isn't taken: no order of its writes is known, its blocks don't say whose they are, its blocks have several sizes
-- and no interval, or its chunks have other places than those of the first clone that writes to its file
abbrev pub refusal_of : List SubJob → SubJob → Option Refusal
refusal_of clones job =
    if job.declines then Some refusal.Unordered
    else (if not (has_writes job.io_type) then None
    else (if not (has_digest job.method.kind) then Some refusal.NoDigest
    else (if chunk_len job == 0 then Some refusal.SeveralSizes
    else (if is_on_grid (first_writer clones job.file) job then None else Some refusal.OtherGrid))))

-- as a fault of the clone
abbrev pub fault_at : SubJob → Refusal → AfterFault
fault_at job why = record { clone = job.clone; why = why }

-- the first of some of the clones that isn't taken
abbrev pub fault_among : List SubJob → List SubJob → Option AfterFault
fault_among clones [] = None
fault_among clones (job ∷ jobs) = option_or (option_map (fault_at job) (refusal_of clones job)) (fault_among clones jobs)

-- why a plan isn't taken
abbrev pub after_fault : Plan → Option AfterFault
after_fault plan = fault_among plan.clones plan.clones
