-- Believed: the files of a run (of this project). Files are compared by name, and stand in the order of their first use.
use Rattle.std.specs.Prelude.{ℕ, nat_eq, suc, ◌==◌, min, max, Bool, true, not, ◌&&◌, List, [], ◌∷◌, if◌then◌else◌}
use Rattle.std.specs.List.{list_any}
use Rattle.jr_model.specs.Plan.{SubJob, FileSpec}
use Rattle.std.specs.Cmp.Lexicographic.{pointwise}

-- the same bytes
abbrev pub same_text : List ℕ → List ℕ → Bool
same_text a b = pointwise nat_eq a b

-- no two of these clones have one file
abbrev pub are_apart : List SubJob → Bool
are_apart [] = true
are_apart (job ∷ jobs) = not (list_any (λ (other : SubJob). other.file == job.file) jobs) && are_apart jobs

-- the place of the file of this name, or of a new one behind all
abbrev pub file_place : List FileSpec → List ℕ → ℕ
file_place [] name = 0
file_place (file ∷ files) name = if same_text file.name name then 0 else suc (file_place files name)

-- a file once a clone from low up to high uses it too
abbrev pub widened : FileSpec → ℕ → ℕ → FileSpec
widened file low high = record { name = file.name; low = min file.low low; high = max file.high high }

-- the files once a clone uses the one of this name from low up to high
abbrev pub with_file : List FileSpec → List ℕ → ℕ → ℕ → List FileSpec
with_file [] name low high = record { name = name; low = low; high = high } ∷ []
with_file (file ∷ files) name low high =
    if same_text file.name name then widened file low high ∷ files else file ∷ with_file files name low high
