-- Claimed: which file each clone of a plan works on (fio's manual, "filename", "directory"; the names of files that a job doesn't
-- name, and their order, are of this project).
use Rattle.std.specs.Prelude.{◌≡◌, ◌↔◌, ℕ, List, [], ◌∷◌, ◌++◌, map, flat_map, fold, Option, Some, slice_get, if◌then◌else◌}
use Rattle.std.specs.List.{list_any}
use Rattle.jr_model.specs.Plan.{SubJob, FileSpec}
use Rattle.jr_plan.specs.Files.{same_text}
use Rattle.jr_text.specs.Records.{SectionText}
use Rattle.jr_options.specs.PlanOf.{PhasedJob, jobs_below, phased, clones_asked, file_of, plan_of}

-- the clones that sections ask for, in their order: each by its place within its job, and the job
abbrev pub asked : List SectionText → Option (List ℕ) → List (ℕ × PhasedJob)
asked sections only = flat_map clones_asked (phased (jobs_below only [] sections))

-- the name that a clone's options give to its file
abbrev pub name_asked : ℕ × PhasedJob → List ℕ
name_asked c = file_of c.1.job c.0

-- names, and one more where it isn't among them
abbrev pub with_name : List (List ℕ) → List ℕ → List (List ℕ)
with_name names name = if list_any (λ (other : List ℕ). same_text other name) names then names else names ++ name ∷ []

-- each name once, in the order of their first use
abbrev pub first_uses : List (List ℕ) → List (List ℕ)
first_uses names = fold with_name [] names

abbrev pub file_names : List FileSpec → List (List ℕ)
file_names files = map (λ (file : FileSpec). file.name) files

-- there are as many clones as are asked for, and each one's file has the name that its options give
abbrev pub FilesAreNamed : Type 0
FilesAreNamed =
    (sections : List SectionText) (only : Option (List ℕ))
    → map (λ (job : SubJob). slice_get (file_names (plan_of sections only).files) job.file) (plan_of sections only).clones
    ≡ map (λ (c : ℕ × PhasedJob). Some (name_asked c)) (asked sections only)

-- two clones have one file exactly where the names are equal
abbrev pub FilesAreShared : Type 0
FilesAreShared =
    (sections : List SectionText) (only : Option (List ℕ)) (i j : ℕ) (a b : SubJob) (c d : ℕ × PhasedJob)
    → slice_get (plan_of sections only).clones i ≡ Some a
    → slice_get (plan_of sections only).clones j ≡ Some b
    → slice_get (asked sections only) i ≡ Some c
    → slice_get (asked sections only) j ≡ Some d
    → (a.file ≡ b.file) ↔ (name_asked c ≡ name_asked d)

-- the files are those that are asked for, each once, in the order of their first use
abbrev pub FilesInOrder : Type 0
FilesInOrder =
    (sections : List SectionText) (only : Option (List ℕ))
    → file_names (plan_of sections only).files ≡ first_uses (map name_asked (asked sections only))
